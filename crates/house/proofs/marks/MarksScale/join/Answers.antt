use Rattle.std.proofs.Common.{◌+◌, ◌*◌, arith}
use Rattle.scale.specs.LevelLaws.{same_level}
use Rattle.scale.specs.LexLaws.{pair_same}
use Rattle.scale.specs.Sums.{summed}
use Rattle.house.proofs.marks.MarksScale.join.Goals as goal

pub returns : goal.returns
returns c = λ m n p q h.
    let penalties = summed (20 * m) (20 * n) (20 * (m + n)) _ _ c.plus.result.penalties p q (omega arith) (omega arith) c.plus.ensures.penalties in
    (pair_same _ _ penalties.0 (same_level _ _ (omega (arith, c.plus.ensures.halves))), penalties.1)
