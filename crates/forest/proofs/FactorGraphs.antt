-- The links of a layout lead from nodes to nodes. Assumes nothing.
use Rattle.std.proofs.Common.{◌≡◌, ℕ, ◌/◌, ◌%◌, ◌<◌, ◌≤◌, true, [], length, ap, ⊎_elim, arith}
use Rattle.std.proofs.lemmas.List.{get_or_past}
use Rattle.std.proofs.lemmas.Bool.{cases_lt, ltb-true}
use Rattle.theory.specs.Graphs.{Whole}
use Rattle.layout.specs.declared.layout.Layout.{Layout}
use Rattle.layout.specs.View.{domains_of, scopes_of, scope_in}
use Rattle.forest.specs.FactorGraph.{layout_graph}

module _ (l : Layout) where
  -- the place of a present link
  place : (n : ℕ) → (layout_graph l).present n ≡ true → n % 4 < length (scope_in l (n / 4))
  place n there = ltb-true (n % 4) (length (scope_in l (n / 4))) there

  pub present_below : (n : ℕ) → (layout_graph l).present n ≡ true → n < (layout_graph l).links
  present_below n there = ⊎_elim
      (λ (lt : n / 4 < length (scopes_of l)). omega arith)
      (λ (le : length (scopes_of l) ≤ n / 4).
      let none = get_or_past (scopes_of l) (n / 4) [] le in
      omega (arith, place n there, ap length none))
      (cases_lt (n / 4) (length (scopes_of l)))

  pub left_known : (n : ℕ) → (layout_graph l).present n ≡ true → (layout_graph l).left n < length (domains_of l)
  left_known n there = omega (arith, l.known (n / 4) (omega (arith, present_below n there)) (n % 4) (place n there))

  pub layout_whole : Whole (layout_graph l)
  layout_whole = record {
    left_below = λ n h there. omega (arith, left_known n there);
    right_below = λ n h there. omega arith;
  }
