use Rattle.std.proofs.Common.{◌∙◌}
use Rattle.theory.specs.Kept.{kept_at}
use Rattle.theory.proofs.Orders.{before_order}
use Rattle.theory.proofs.Kept.{kept_clears, kept_joins}
use Rattle.theory.proofs.LeftOut.{left_out_count}
use Rattle.theory.proofs.Weighed.{lightest_set}
use Rattle.forest.specs.FactorGraph.{layout_graph}
use Rattle.forest.proofs.FactorGraphs.{layout_whole}
use Rattle.forest.proofs.Sorted.{kept_by_order}
use Rattle.keeping.proofs.EachFunction.{function_kept}
use Rattle.keeping.specs.Weights.{weight_of}
use Rattle.keeping.proofs.kept_along.Goals as goal

pub returns : goal.returns
returns g c =
    let m = g.V.Scale in
    let laws = g.met.V.Scale.laws in
    let w = weight_of m.rules m.means c.args.weights.now in
    let strict = before_order laws w in
    let l = c.args.layout.now in
    let G = layout_graph l in
    let whole = layout_whole l in
    let K = kept_at c.keep_in_order.result.words in
    let along = c.keep_in_order.ensures in
    let listed = c.list_links-count.ensures.listed in
    let order = c.sort_by_weight.ensures in
    let keeps = kept_by_order G strict _
    (λ n below there. let (i, low, at) = listed.complete n below there in let (j, small, same) = order.complete i low in (j, small, same ∙ at))
    order.ordered K along in
    record {
      only = λ n e. (along.only n e).0;
      keeps = keeps;
      clears = kept_clears whole strict K keeps;
      each = λ n u. function_kept l K (kept_joins whole strict K keeps) n u;
      joins = kept_joins whole strict K keeps;
      lightest = λ positive C clears. lightest_set m.rules laws G whole w positive K keeps C clears;
      left_out = left_out_count whole strict K keeps;
    }
