use Rattle.std.proofs.Common.{refl}
use Rattle.worked.proofs.PairCells.{pair_stores}
use Rattle.worked.proofs.pair_stored.Goals as goal

pub returns : goal.returns
returns c = record { count = refl; stores = pair_stores }
