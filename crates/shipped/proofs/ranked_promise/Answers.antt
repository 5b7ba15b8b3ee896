use Rattle.shipped.proofs.Ranked.{ranked_are, ranked_promised}
use Rattle.shipped.proofs.ranked_promise.Goals as goal

pub returns : goal.returns
returns c = record { rules = ranked_are; promise = ranked_promised }
