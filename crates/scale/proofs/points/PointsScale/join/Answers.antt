use Rattle.std.proofs.Common.{arith}
use Rattle.scale.specs.Sums.{summed_wrapped}
use Rattle.scale.proofs.points.PointsScale.join.Goals as goal

pub returns : goal.returns
returns c = λ m n p q h. summed_wrapped _ _ _ _ _ _ p q (omega arith) (omega arith) c.plus.ensures
