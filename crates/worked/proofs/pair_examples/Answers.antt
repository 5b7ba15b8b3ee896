use Rattle.std.proofs.Common.{refl}
use Rattle.worked.proofs.Pair.{pair_weights}
use Rattle.worked.proofs.PairKept.{pair_kept}
use Rattle.worked.proofs.pair_examples.Goals as goal

pub returns : goal.returns
returns c = record { count = refl; weights = pair_weights; kept = pair_kept }
