use Rattle.std.proofs.Common.{refl}
use Rattle.worked.proofs.Limiting.{limits, not_within}
use Rattle.worked.proofs.limited.Goals as goal

pub returns : goal.returns
returns c = record { count = refl; limits = limits; not_within = not_within }
