use Rattle.std.proofs.Common.{◌≡◌, ℕ, ◌<◌, ◌≤◌, List, length, get_or, sym, ap, ◌∙◌, inl, inr, ⊎_elim, arith, rules}
use Rattle.std.proofs.lemmas.List.{get_or_default}
use Rattle.std.proofs.lemmas.Bool.{cases_lt}
use Rattle.forest.specs.FactorGraph.{layout_graph}
use Rattle.forest.specs.Labelled.{label_in}
use Rattle.forest.proofs.keeping.Parts.consider.Goals as goal

-- what is read at a node is its label
read : (labels : List ℕ) (node : ℕ) → length labels ≡ 128 → node < 128 → label_in labels node ≡ get_or labels node 0
read labels node long h = get_or_default labels node node 0 (omega arith)

pub merge-requires-clause-high : goal.merge-requires-clause-high
merge-requires-clause-high c =
    let labels = c.args.self.now.labels in
    let long : length labels ≡ 128 = search rules in
    let (_, left, right) = c.in-Some.ensures.within in
    omega (arith, c.requires c.in-Some.left, c.requires c.in-Some.right, read labels c.in-Some.left long left, read labels c.in-Some.right long right, c.max.ensures)

pub returns-then-a-b : goal.returns-then-a-b
returns-then-a-b c =
    let labels = c.args.self.now.labels in
    let long : length labels ≡ 128 = search rules in
    let (_, left, right) = c.in-Some.ensures.within in
    let ends = c.in-Some.ensures.ends in
    let a = get_or labels c.in-Some.left 0 in
    let b = get_or labels c.in-Some.right 0 in
    let from : label_in labels ((layout_graph c.args.layout.now).left c.args.link) ≡ a = ap (label_in labels) (sym ends.from) ∙ read labels c.in-Some.left long left in
    let to : label_in labels ((layout_graph c.args.layout.now).right c.args.link) ≡ b = ap (label_in labels) (sym ends.to) ∙ read labels c.in-Some.right long right in
    inl (record {
      low = c.min.result;
      high = c.max.result;
      under = omega (arith, c.if-a-b.true, c.min.ensures, c.max.ensures);
      there = ends.there;
      ends = ⊎_elim
          (λ (lt : a < b). inl (omega (arith, from, c.min.ensures), omega (arith, to, c.max.ensures)))
          (λ (le : b ≤ a). inr (omega (arith, from, c.max.ensures), omega (arith, to, c.min.ensures)))
          (cases_lt a b);
      kept = c.merge.ensures.kept;
      labels = c.merge.ensures.labels;
    })
