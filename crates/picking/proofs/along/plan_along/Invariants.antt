use Rattle.picking.proofs.OrderSteps.{Along}
use Rattle.picking.proofs.along.plan_along.Given as goal

abbrev pub invariant-loop-node : goal.invariant-loop-node
invariant-loop-node g l = Along g.V.Scale.rules g.V.Scale.means l.values.cells.now l.choices.cells.now l.forest l.node-index l.draft.values
