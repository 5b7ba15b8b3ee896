-- The problem of tables has the domains and scopes of their layout, and so its factor graph. Assumes nothing.
use Rattle.std.proofs.Common.{◌≡◌, ℕ, ◌/◌, ◌%◌, ◌<◌, Bool, true, sym, refl, ap, ◌∙◌, subst, arith}
use Rattle.std.proofs.lemmas.Bool.{lt-ltb, ltb-true}
use Rattle.theory.specs.Problem.{functions, arity}
use Rattle.theory.specs.Graphs.{Graph, Cycle}
use Rattle.theory.specs.Links.{link, is_link, graph}
use Rattle.layout.specs.View.{domains_of, scopes_of}
use Rattle.tables.specs.declared.tables.Tables.{Tables}
use Rattle.tables.specs.View.{problem_of}
use Rattle.tables.proofs.Ordered.{scopes_from, within_sizes}
use Rattle.forest.specs.FactorGraph.{layout_graph}
use Rattle.forest.proofs.FactorGraphs.{present_below}
use Rattle.hanging.specs.declared.hung.Hung.{Hung}
use Rattle.hanging.specs.Forest.{Shaped, EachKept, HangsForest}
use Rattle.hanging.proofs.Shaped.{same_functions, same_graph}
use Rattle.spanning.specs.HungForest.{HungForest}

module _ (t : Tables) where
  pub shaped : Shaped t.layout (problem_of t)
  shaped = record { domains = refl; scopes = scopes_from (domains_of t.layout) (scopes_of t.layout) t.words }

  pub one_graph : graph (problem_of t) ≡ layout_graph t.layout
  one_graph = same_graph shaped

  pub one_link : (n : ℕ) → (layout_graph t.layout).present n ≡ is_link (problem_of t) n
  one_link n = ap (λ (G : Graph). G.present n) (sym one_graph)

  -- a link of the problem is there as far as the layout says so
  pub as_told : (n : ℕ) (b : Bool) → b ≡ (layout_graph t.layout).present n → is_link (problem_of t) n ≡ b
  as_told n b told = sym (told ∙ one_link n)

  -- the function and the place of a link are there
  pub function_there : (n : ℕ) → is_link (problem_of t) n ≡ true → n / 4 < functions (problem_of t)
  function_there n there = omega (arith, present_below t.layout n (one_link n ∙ there), same_functions shaped)

  pub place_there : (n : ℕ) → is_link (problem_of t) n ≡ true → n % 4 < arity (problem_of t) (n / 4)
  place_there n there = ltb-true (n % 4) (arity (problem_of t) (n / 4)) there

  -- the place of a function has its link
  pub link_there : (f p : ℕ) → f < functions (problem_of t) → p < arity (problem_of t) f → (link f p / 4 ≡ f) × (link f p % 4 ≡ p) × (is_link (problem_of t) (link f p) ≡ true)
  link_there f p h k =
      let four = (within_sizes t).sound.four_places f h in
      let own : link f p / 4 ≡ f = omega arith in
      let place : link f p % 4 ≡ p = omega arith in
      (own, place, lt-ltb (link f p % 4) (arity (problem_of t) (link f p / 4)) (subst (λ (g : ℕ). link f p % 4 < arity (problem_of t) g) (sym own) (omega arith)))

  pub all_hung_lem : (kept : ℕ → Bool) (r : Hung) → EachKept (problem_of t) kept → (Cycle (graph (problem_of t)) kept → ⊥) →
      HangsForest (problem_of t) kept r → HungForest (problem_of t) kept r
  all_hung_lem kept r each clear hangs = record {
    well = hangs.well each clear;
    lowest = hangs.lowest;
    order = hangs.order each;
    unique = hangs.unique each clear (within_sizes t).sound;
  }
