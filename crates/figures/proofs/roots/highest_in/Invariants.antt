use Rattle.figures.proofs.Highest.{HighestSoFar}
use Rattle.figures.proofs.roots.highest_in.Given as goal

abbrev pub invariant-loop-value : goal.invariant-loop-value
invariant-loop-value g l = HighestSoFar g.V.Scale.rules g.V.Scale.means l.values l.value-index l.best
