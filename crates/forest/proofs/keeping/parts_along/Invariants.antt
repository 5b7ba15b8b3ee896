use Rattle.theory.specs.Kept.{kept_at}
use Rattle.forest.specs.FactorGraph.{layout_graph}
use Rattle.forest.specs.Labelled.{label_in}
use Rattle.forest.proofs.Along.{Upto}
use Rattle.forest.proofs.keeping.parts_along.Given as goal

abbrev pub invariant-loop-link : goal.invariant-loop-link
invariant-loop-link l = Upto (layout_graph l.layout) l.order (kept_at l.parts.kept.words) (label_in l.parts.labels) l.link-index
