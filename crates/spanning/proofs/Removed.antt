-- What is known of the links of a problem that are kept by their weights. Assumes nothing.
use Rattle.std.proofs.Common.{◌≡◌, ℕ, ◌/◌, ◌%◌, ◌<◌, Bool, true, false, sym, refl, ap, ◌∙◌, subst, ⊎_elim, arith}
use mathlib.Core.Path.{fun_ext}
use mathlib.Core.Bool.{not-not}
use Rattle.std.proofs.lemmas.Bool.{cases_Bool, both_ways}
use Rattle.scale.specs.Rules.{Rules}
use Rattle.scale.specs.Laws.{Gaps}
use Rattle.theory.specs.Problem.{arity}
use Rattle.theory.specs.Graphs.{Graph, Uses, Cycle, every}
use Rattle.theory.specs.Cut.{Weights}
use Rattle.theory.specs.Bounded.{Bounded}
use Rattle.theory.specs.Links.{link, is_link, graph}
use Rattle.tables.specs.declared.tables.Tables.{Tables}
use Rattle.tables.specs.View.{problem_of}
use Rattle.tables.proofs.Ordered.{within_sizes}
use Rattle.forest.specs.FactorGraph.{layout_graph}
use Rattle.keeping.specs.KeptByWeight.{KeptByWeight}
use Rattle.hanging.specs.Forest.{EachKept}
use Rattle.spanning.specs.LightestRemoved.{LightestRemoved}
use Rattle.spanning.proofs.OfTables.{one_graph, function_there, place_there, link_there}

module _ {E : Type 0} (R : Rules E) (t : Tables) (w : ℕ → E) (K : ℕ → Bool) (by_layout : KeptByWeight R (layout_graph t.layout) w K) where
  by_weight_lem : KeptByWeight R (graph (problem_of t)) w K
  by_weight_lem = subst (λ (G : Graph). KeptByWeight R G w K) (sym (one_graph t)) by_layout

  pub no_cycle : Cycle (graph (problem_of t)) K → ⊥
  no_cycle cycle = by_weight_lem.clears (subst (Cycle (graph (problem_of t))) (fun_ext (λ n. sym (not-not (K n)))) cycle)

  pub each_kept : EachKept (problem_of t) K
  each_kept f h =
      let (own, _, there) = link_there t f 0 h ((within_sizes t).sound.some_place f h) in
      let any : Uses (graph (problem_of t)) every (link f 0) = record { below = omega arith; there = there; chosen = refl } in
      let (m, uses, end) = by_weight_lem.each (link f 0) any in
      let here : m / 4 ≡ f = omega arith in
      let same : m ≡ link f (m % 4) = omega arith in
      (m % 4, subst (λ (g : ℕ). m % 4 < arity (problem_of t) g) here (place_there t m uses.there), ap K (sym same) ∙ uses.chosen)

  module _ (weights : Weights R (problem_of t) w) where
    -- a gap is never below neutral
    none_below : Gaps R → (n : ℕ) → n < (graph (problem_of t)).links → is_link (problem_of t) n ≡ true → R.leq R.neutral (w n) ≡ true
    none_below gaps n h there =
        let same : link (n / 4) (n % 4) ≡ n = omega arith in
        let swing = (weights (n / 4) (n % 4) (function_there t n there) (place_there t n there)).attained in
        subst (λ (e : E). R.leq R.neutral e ≡ true) (swing.is ∙ ap w same) (gaps.rises swing.high swing.low)

    pub lightest_removed : Gaps R → LightestRemoved R (problem_of t) w K
    lightest_removed gaps = record {
      clears = by_weight_lem.clears;
      lightest = by_weight_lem.lightest (none_below gaps);
      joins = by_weight_lem.joins;
      left_out = by_weight_lem.left_out;
    }

    pub bounded : ((n : ℕ) → is_link (problem_of t) n ≡ false → w n ≡ R.neutral) → Bounded R (problem_of t) w K
    bounded unweighed = record {
      weights = weights;
      keeps = by_weight_lem.keeps;
      unweighed = unweighed;
      unkept = λ n none. ⊎_elim (λ kept. absurd (both_ways _ none (by_weight_lem.only n kept))) (λ out. out) (cases_Bool (K n));
    }
