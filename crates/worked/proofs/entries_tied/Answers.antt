use Rattle.std.proofs.Common.{refl}
use Rattle.worked.proofs.Tied.{takes_first}
use Rattle.worked.proofs.entries_tied.Goals as goal

pub returns : goal.returns
returns c = record { count = refl; first = takes_first }
