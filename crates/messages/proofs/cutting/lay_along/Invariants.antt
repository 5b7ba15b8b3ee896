use Rattle.std.proofs.Common.{◌+◌}
use Rattle.messages.specs.Places.{CutTo}
use Rattle.messages.proofs.cutting.lay_along.Given as goal

abbrev pub invariant-loop-x : goal.invariant-loop-x
invariant-loop-x g l = CutTo g.V.Scale.rules l.places l.table (l.at + l.x) l.words
