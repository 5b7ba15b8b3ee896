use Rattle.shipped.proofs.Points.{points_are, points_promised}
use Rattle.shipped.proofs.points_promise.Goals as goal

pub returns : goal.returns
returns c = record { rules = points_are; promise = points_promised }
