use Rattle.std.proofs.Common.{refl}
use Rattle.worked.proofs.PairFigures.{pair_figures}
use Rattle.worked.proofs.pair_reported.Goals as goal

pub returns : goal.returns
returns c = record { count = refl; report = pair_figures }
