use Rattle.joining.specs.Given.{JoinOfGiven}
use Rattle.joining.proofs.joined_below.Given as goal

abbrev pub invariant-loop-number : goal.invariant-loop-number
invariant-loop-number g l = JoinOfGiven g.V.Scale.rules g.V.Scale.means g.V.Scale.within l.number (goal.F-post g l.given) l.sum
