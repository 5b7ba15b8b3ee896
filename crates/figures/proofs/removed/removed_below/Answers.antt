use Rattle.std.proofs.Common.{rules, arith, ◌∙◌}
use Rattle.theory.specs.Graphs.{outside}
use Rattle.theory.specs.Kept.{kept_at}
use Rattle.layout.proofs.Shapes.{few_functions}
use Rattle.keeping.specs.Weights.{weight_of}
use Rattle.figures.proofs.Removing.{weights_joined, weight_is}
use Rattle.figures.proofs.removed.removed_below.Goals as goal

pub returns : goal.returns
returns g c =
    let v = g.V.Scale in
    let t = c.args.tables.now in
    let words = c.args.kept.now.words in
    let weights = c.args.weights.now in
    let sum = weights_joined v.rules v.means v.within t.layout words weights c.requires.long c.requires.few g.met.V.Scale.ties
    _ c.joined.result c.args.links (omega (arith, few_functions t.layout, c.requires.links)) c.joined.ensures (λ n o h given. search rules) in
    record {
      exact = sum.exact ∙ weight_is v.rules t (weight_of v.rules v.means weights) (outside (kept_at words)) c.args.links c.requires.links;
      within = sum.few;
    }
