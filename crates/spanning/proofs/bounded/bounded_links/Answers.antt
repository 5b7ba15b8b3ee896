use Rattle.std.proofs.Common.{List, sym, subst}
use Rattle.theory.specs.Kept.{kept_at}
use Rattle.theory.specs.Bounded.{Bounded}
use Rattle.tables.specs.View.{problem_of}
use Rattle.forest.specs.declared.links.Links.{Links}
use Rattle.forest.specs.FactorGraph.{layout_graph}
use Rattle.keeping.specs.KeptByWeight.{KeptByWeight}
use Rattle.keeping.specs.Weights.{weight_of}
use Rattle.spanning.specs.LightestRemoved.{LightestRemoved}
use Rattle.spanning.specs.WeightCells.{weight_cells}
use Rattle.spanning.proofs.Removed.{no_cycle, each_kept, lightest_removed, bounded}
use Rattle.spanning.proofs.bounded.bounded_links.Goals as goal

pub hung_by-requires : goal.hung_by-requires
hung_by-requires g c =
    let s = g.V.Scale in
    let t = c.args.tables.now in
    let w = weight_of s.rules s.means c.part.result.now in
    let K = kept_at c.keep_by_weight.result.words in
    record { each = each_kept s.rules t w K c.keep_by_weight.ensures; clear = no_cycle s.rules t w K c.keep_by_weight.ensures }

pub returns : goal.returns
returns g c =
    let s = g.V.Scale in
    let t = c.args.tables.now in
    let P = problem_of t in
    let cells = weight_cells c.args.values.now.cells.now in
    let w = weight_of s.rules s.means cells in
    let K = kept_at c.keep_by_weight.result.words in
    let by_weight_lem : KeptByWeight s.rules (layout_graph t.layout) w K =
    subst (λ (weights : List g.row.V.Denot). KeptByWeight s.rules (layout_graph t.layout) (weight_of s.rules s.means weights) K) c.part.ensures c.keep_by_weight.ensures in
    let same = sym c.hung_by.ensures.kept in
    record {
      rule = subst (λ (links : Links). Bounded s.rules P w (kept_at links.words)) same (bounded s.rules t w K by_weight_lem c.requires.weights c.requires.unweighed);
      hung = c.hung_by.ensures.hung;
      lightest = subst (λ (links : Links). LightestRemoved s.rules P w (kept_at links.words)) same
          (lightest_removed s.rules t w K by_weight_lem c.requires.weights g.met.V.Measuring.gaps);
    }
