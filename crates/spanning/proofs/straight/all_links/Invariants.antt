use Rattle.theory.specs.Kept.{kept_at}
use Rattle.forest.specs.FactorGraph.{layout_graph}
use Rattle.spanning.proofs.AllLinks.{Upto}
use Rattle.spanning.proofs.straight.all_links.Given as goal

abbrev pub invariant-loop-link : goal.invariant-loop-link
invariant-loop-link l = Upto (layout_graph l.layout).present (kept_at l.links.words) l.link
