use Rattle.std.proofs.Common.{◌≤◌, take}
use Rattle.forest.specs.FactorGraph.{layout_graph}
use Rattle.forest.proofs.Lists.{ListedBelow}
use Rattle.forest.proofs.listing.list_below.Given as goal

abbrev pub invariant-loop-link : goal.invariant-loop-link
invariant-loop-link l = (l.count ≤ l.link) × ListedBelow (layout_graph l.layout) (take l.count l.room) l.link
