use Rattle.std.proofs.Common.{refl}
use Rattle.worked.proofs.Tied.{tie_report}
use Rattle.worked.proofs.Chained.{chain_straight, chain_report}
use Rattle.worked.proofs.forest_examples.Goals as goal

pub returns : goal.returns
returns c = record { count = refl; tie = tie_report; straight = chain_straight; chain = chain_report }
