use Rattle.std.proofs.Common.{◌≡◌, true, int_le, arith, rules}
use Rattle.scale.specs.Sums.{gapped_wrapped}
use Rattle.scale.proofs.points.PointsMeasuring.gap.Goals as goal

pub returns-then-other-self : goal.returns-then-other-self
returns-then-other-self c = λ m n p q h.
    let t : int_le c.args.other.value c.args.self.value ≡ true = search rules in
    rw t (gapped_wrapped _ _ _ _ _ _ p q (omega arith) (omega arith) c.minus.ensures)
