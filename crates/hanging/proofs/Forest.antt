-- The forest of a problem, hung. Assumes nothing.
use Rattle.std.proofs.Common.{◌≡◌, ℕ, ◌+◌, ◌*◌, ◌/◌, ◌%◌, ◌<◌, Bool, true, ◌⊎◌, length, get_or, Some, None, Option, is_some, unwrap_or, sym, refl, ap, ◌∙◌, subst, inl, inr, ⊎_elim, arith}
use Rattle.std.proofs.lemmas.Option.{none-some, same_Some}
use Rattle.std.proofs.lemmas.Bool.{cases_eq, lt-ltb, ltb-true}
use Rattle.theory.specs.Problem.{Problem, variables, functions, arity, at}
use Rattle.theory.specs.Graphs.{Joined, Cycle}
use Rattle.theory.specs.Links.{link, graph}
use Rattle.theory.specs.Forest.{WellHung, LowestRoots, above}
use Rattle.theory.proofs.Choice.{choose}
use Rattle.theory.proofs.Hangs.{root_test, root_from}
use Rattle.layout.specs.declared.layout.Layout.{Layout}
use Rattle.layout.specs.View.{domains_of, scope_in}
use Rattle.forest.specs.FactorGraph.{layout_graph}
use Rattle.hanging.specs.declared.hung.Hung.{Hung}
use Rattle.hanging.specs.declared.node.Node.{Node}
use Rattle.hanging.specs.declared.node.Node.TheVariants as node
use Rattle.hanging.specs.Hung.{variable_at, function_at, place_of, node_at, hung_node}
use Rattle.hanging.specs.Kept.{Kept, Linked}
use Rattle.hanging.specs.Growing.{Stands, Before, Under}
use Rattle.hanging.specs.Forest.{Shaped, EachKept, hanging_of, Known, InOrder, HangsForest}
use Rattle.hanging.proofs.Turns.{left_known}
use Rattle.hanging.proofs.Parts.{PartsHung, by_parent, placed}
use Rattle.hanging.proofs.Shaped.{same_variables, same_functions, same_scope, same_at, same_graph}
use Rattle.hanging.proofs.Ringed.{one_position, ringed}
use Rattle.hanging.proofs.Unique.{one_hanging}

hangs_or_not : (o : Option ℕ) (f : ℕ) → (o ≡ Some f) ⊎ (o ≡ Some f → ⊥)
hangs_or_not None f = inr (λ e. none-some f e)
hangs_or_not (Some g) f = ⊎_elim (λ e. inl (ap Some e)) (λ ne. inr (λ e. ne (same_Some g f e))) (cases_eq g f)

module _ (l : Layout) (K : ℕ → Bool) {r : Hung} (parts : PartsHung l K r (length (domains_of l))) (P : Problem) (shaped : Shaped l P) where
  -- the link at a place, as the layout has it
  module _ (f p : ℕ) (small : p < 4) where
    quotient : (4 * f + p) / 4 ≡ f
    quotient = omega arith

    rest : (4 * f + p) % 4 ≡ p
    rest = omega arith

    same_left : (layout_graph l).left (4 * f + p) ≡ at P f p
    same_left = ap (λ g. get_or (scope_in l g) ((4 * f + p) % 4) 0) quotient ∙ ap (λ q. get_or (scope_in l f) q 0) rest ∙ sym (same_at shaped f p)

    same_size : length (scope_in l ((4 * f + p) / 4)) ≡ arity P f
    same_size = ap (λ g. length (scope_in l g)) quotient ∙ sym (ap length (same_scope shaped f))

    place_there : Kept l K (4 * f + p) → p < arity P f
    place_there k = omega (arith, ltb-true ((4 * f + p) % 4) (length (scope_in l ((4 * f + p) / 4))) k.there, rest, same_size)

  four : (f p : ℕ) → f < functions P → p < arity P f → p < 4
  four f p h q = omega (arith, (l.places f (omega (arith, same_functions shaped))).1, ap length (same_scope shaped f))

  kept_here : (f p : ℕ) → f < functions P → p < arity P f → K (link f p) ≡ true → Kept l K (4 * f + p)
  kept_here f p h q e =
      let small = four f p h q in
      record {
        below = omega (arith, same_functions shaped);
        there = lt-ltb ((4 * f + p) % 4) (length (scope_in l ((4 * f + p) / 4))) (omega (arith, rest f p small, same_size f p small));
        chosen = e;
      }

  under_place : (f : ℕ) → is_some (function_at r f).parent ≡ true → Under l K r f (place_of r f)
  under_place f h = parts.sound.under f (place_of r f) (placed (function_at r f).parent h)

  -- What is hung is a node of the problem.
  hung_known : (b : Node) → hung_node r b ≡ true → Known P b
  hung_known (node.Variable v) h = omega (arith, parts.known v h, same_variables shaped)
  hung_known (node.Function f) h = omega (arith, (under_place f h).kept.below, same_functions shaped)

  variable_hung : (v : ℕ) → v < variables P → (variable_at r v).hung ≡ true
  variable_hung v h = parts.first v (omega (arith, same_variables shaped))

  -- A function with a kept link is hung.
  link_hung : (n : ℕ) → Kept l K n → is_some (function_at r (n / 4)).parent ≡ true
  link_hung n k =
      let v = (layout_graph l).left n in
      let linked : Linked l K v (n / 4) = record { link = n; kept = k; variable = refl; function = refl } in
      parts.around (node.Variable v) (node.Function (n / 4)) (parts.first v (left_known l K n k)) linked

  lowest : LowestRoots P K (hanging_of r)
  lowest v h = (
    λ top u lt j. parts.root v (variable_hung v h) (root_from (variable_at r v).parent top) u lt (subst (λ g. Joined g K v u) (same_graph shaped) j),
    λ alone. by_parent (variable_at r v).parent
        (λ none. root_test (variable_at r v).parent none)
        (λ f some.
        let low = parts.inner v f (variable_hung v h) some in
        absurd (alone low.0 low.1 (subst (λ g. Joined g K v low.0) (sym (same_graph shaped)) low.2))),
  )

  module _ (each : EachKept P K) where
    all_hung_lem : (b : Node) → Known P b → hung_node r b ≡ true
    all_hung_lem (node.Variable v) h = variable_hung v h
    all_hung_lem (node.Function f) h =
        let (p, q, e) = each f h in
        subst (λ g. is_some (function_at r g).parent ≡ true) (quotient f p (four f p h q)) (link_hung (4 * f + p) (kept_here f p h q e))

    in_order : InOrder P r
    in_order = record {
      each = λ b h. parts.sound.listed.each b (all_hung_lem b h);
      only = λ i h. hung_known (node_at r i) (parts.sound.listed.only i h);
      once = parts.sound.listed.once;
      below = λ v f h e. (parts.sound.below v f (variable_hung v h) e).before;
      under = λ f h.
          let u = under_place f (all_hung_lem (node.Function f) h) in
          subst (λ v. Before r (node.Variable v) (node.Function f)) (same_left f (place_of r f) u.place) u.before;
    }

    -- A kept link by which no node hangs would close a cycle.
    module _ (clear : Cycle (graph P) K → ⊥) (f p : ℕ) (h : f < functions P) (q : p < arity P f) (e : K (link f p) ≡ true) where
      some_end_hangs : (p ≡ place_of r f → ⊥) → ((variable_at r (at P f p)).parent ≡ Some f → ⊥) → ⊥
      some_end_hangs no_function no_variable =
          let n = 4 * f + p in
          let small = four f p h q in
          let kept = kept_here f p h q e in
          let own = quotient f p small in
          clear (subst (λ g. Cycle g K) (sym (same_graph shaped)) (ringed l K parts n kept
          (λ some. no_function (sym (rest f p small) ∙ ap (λ o. unwrap_or o 0) (sym some) ∙ ap (place_of r) own))
          (λ some. no_variable (ap (λ v. (variable_at r v).parent) (sym (same_left f p small)) ∙ some ∙ ap Some own))
          (parts.first ((layout_graph l).left n) (left_known l K n kept)) (link_hung n kept)))

      each_link : (p ≡ place_of r f) ⊎ ((variable_at r (at P f p)).parent ≡ Some f)
      each_link = ⊎_elim inl
          (λ no_function. ⊎_elim inr (λ no_variable. absurd (some_end_hangs no_function no_variable)) (hangs_or_not (variable_at r (at P f p)).parent f))
          (cases_eq p (place_of r f))

    var_known : (v f : ℕ) → v < variables P → (variable_at r v).parent ≡ Some f → f < functions P
    var_known v f h e =
        let up = (parts.sound.below v f (variable_hung v h) e).linked in
        omega (arith, up.kept.below, up.function, same_functions shaped)

    var_kept : (v f : ℕ) → v < variables P → (variable_at r v).parent ≡ Some f → (p : ℕ) × (p < arity P f) × (at P f p ≡ v) × (K (link f p) ≡ true)
    var_kept v f h e =
        let up = (parts.sound.below v f (variable_hung v h) e).linked in
        let p = up.link % 4 in
        let small : p < 4 = omega arith in
        let same : 4 * f + p ≡ up.link = omega (arith, up.function) in
        let kept = subst (Kept l K) (sym same) up.kept in
        (p, place_there f p small kept, sym (same_left f p small) ∙ ap (λ n. (layout_graph l).left n) same ∙ up.variable, kept.chosen)

    -- The rank of a node is its position in the order.
    variable_rank : (at : ℕ → ℕ) × ((v : ℕ) → v < variables P → Stands r (at v) (node.Variable v))
    variable_rank = choose (variables P) (λ v i. Stands r i (node.Variable v)) 0 (λ v h. in_order.each (node.Variable v) h)

    function_rank : (at : ℕ → ℕ) × ((f : ℕ) → f < functions P → Stands r (at f) (node.Function f))
    function_rank = choose (functions P) (λ f i. Stands r i (node.Function f)) 0 (λ f h. in_order.each (node.Function f) h)

    falls : (a b : Node) → Before r a b → (i j : ℕ) → Stands r i a → Stands r j b → i < j
    falls a b x i j at_i at_j =
        let one = one_position parts.sound.listed x.first i a x.one at_i in
        let other = one_position parts.sound.listed x.second j b x.other at_j in
        omega (arith, x.less)

    well : (Cycle (graph P) K → ⊥) → WellHung P K (hanging_of r)
    well clear = record {
      each_link = each_link clear;
      fun_place = λ f h. let u = under_place f (all_hung_lem (node.Function f) h) in place_there f (place_of r f) u.place u.kept;
      fun_kept = λ f h. (under_place f (all_hung_lem (node.Function f) h)).kept.chosen;
      var_known = var_known;
      var_kept = var_kept;
      var_rank = variable_rank.0;
      fun_rank = function_rank.0;
      var_falls = λ v f h e.
          falls (node.Function f) (node.Variable v) (in_order.below v f h e) (function_rank.0 f) (variable_rank.0 v) (function_rank.1 f (var_known v f h e)) (variable_rank.1 v h);
      fun_falls = λ f h.
          let u = in_order.under f h in
          let v = above P (hanging_of r) f in
          let known : v < variables P = subst (Known P) u.one.here (in_order.only u.first u.one.within) in
          falls (node.Variable v) (node.Function f) u (variable_rank.0 v) (function_rank.0 f) (variable_rank.1 v known) (function_rank.1 f h);
    }

  pub hangs_forest : HangsForest P K r
  hangs_forest = record {
    lowest = lowest;
    all = all_hung_lem;
    order = in_order;
    well = well;
    unique = λ each clear sound H hung low. one_hanging P sound K H (hanging_of r) hung (well each clear) low lowest;
  }
