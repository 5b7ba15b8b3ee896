use Rattle.theory.proofs.Parts.{number_order}
use Rattle.forest.specs.FactorGraph.{layout_graph}
use Rattle.forest.proofs.Sorted.{kept_by_order}
use Rattle.forest.proofs.cycles.kept_by_number.Goals as goal

pub returns : goal.returns
returns c =
    let listed = c.list_links-count.ensures.listed in
    kept_by_order (layout_graph c.args.layout.now) number_order _ listed.complete listed.rising _ c.keep_in_order.ensures
