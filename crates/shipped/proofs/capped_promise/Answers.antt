use Rattle.shipped.proofs.Capped.{capped_are, capped_promised}
use Rattle.shipped.proofs.capped_promise.Goals as goal

pub returns : goal.returns
returns c = record { rules = capped_are; promise = capped_promised }
