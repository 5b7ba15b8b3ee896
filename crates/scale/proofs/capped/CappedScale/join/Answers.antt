use Rattle.std.proofs.Common.{arith}
use Rattle.scale.specs.LevelLaws.{same_level}
use Rattle.scale.proofs.capped.CappedScale.join.Goals as goal

pub returns : goal.returns
returns c = λ m n p q h. (same_level _ _ (omega arith), tt)
