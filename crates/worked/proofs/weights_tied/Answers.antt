use Rattle.std.proofs.Common.{refl}
use Rattle.worked.proofs.EqualKept.{equal_weights}
use Rattle.worked.proofs.weights_tied.Goals as goal

pub returns : goal.returns
returns c = record { count = refl; weights = equal_weights }
