use Rattle.picking.proofs.Lowest.{LowestSoFar}
use Rattle.picking.proofs.roots.lowest_highest.Given as goal

abbrev pub invariant-loop-value : goal.invariant-loop-value
invariant-loop-value g l = LowestSoFar g.V.Scale.rules g.V.Scale.means l.message l.value l.best
