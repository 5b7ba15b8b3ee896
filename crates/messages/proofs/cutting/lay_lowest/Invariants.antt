use Rattle.std.proofs.Common.{◌+◌, set}
use Rattle.messages.specs.Places.{CutTo}
use Rattle.messages.proofs.cutting.lay_lowest.Given as goal

-- with the lowest so far at the key
abbrev pub invariant-loop-x : goal.invariant-loop-x
invariant-loop-x g l = CutTo g.V.Scale.rules l.places l.table (l.at + l.x) (set l.words l.key l.low)
