use Rattle.std.proofs.Common.{refl}
use Rattle.worked.proofs.Lawful.{generous_gap, same_by_values}
use Rattle.worked.proofs.left_open.Goals as goal

pub returns : goal.returns
returns c = record { count = refl; generous_gap = generous_gap; same_by_values = same_by_values }
