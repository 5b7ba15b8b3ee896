use Rattle.std.proofs.Common.{sym, ◌+◌, ◌*◌, arith}
use Rattle.scale.specs.LevelLaws.{same_level}
use Rattle.scale.specs.LexLaws.{pair_same}
use Rattle.scale.specs.Sums.{gapped}
use Rattle.house.proofs.marks.MarksMeasuring.gap.Goals as goal

pub returns-then-at_least : goal.returns-then-at_least
returns-then-at_least c = λ m n p q h.
    let penalties = gapped (20 * m) (20 * n) (20 * (m + n)) _ _ c.minus.result.penalties p q (omega arith) (omega arith) c.minus.ensures.penalties in
    (rw (sym c.if-at_least.ensures) (pair_same _ _ penalties.0 (same_level _ _ (omega (arith, c.minus.ensures.halves)))), penalties.1)
