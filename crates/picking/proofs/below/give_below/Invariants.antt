use Rattle.picking.specs.Steps.{Handed}
use Rattle.picking.proofs.below.give_below.Given as goal

abbrev pub invariant-loop-p : goal.invariant-loop-p
invariant-loop-p l = Handed l.places l.values l.p l.initial.draft.values l.draft.values
