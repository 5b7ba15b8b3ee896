-- The turns of the two loops that hang the neighbours of a node. Assumes nothing.
use Rattle.std.proofs.Common.{◌≡◌, ℕ, ◌+◌, ◌*◌, ◌/◌, ◌%◌, ◌<◌, Bool, true, false, ◌⊎◌, ◌==◌, List, length, get_or, Some, None, is_some, unwrap_or, sym, ap, ◌∙◌, subst, inl, inr, ⊎_elim, arith, below_more}
use Rattle.std.specs.List.{position}
use Rattle.std.proofs.lemmas.Option.{none-some, same_Some}
use Rattle.std.proofs.lemmas.Bool.{both_ways, cases_eq, ltb-true}
use Rattle.layout.specs.declared.layout.Layout.{Layout}
use Rattle.layout.specs.View.{domains_of, scopes_of, scope_in}
use Rattle.layout.proofs.Shapes.{few_variables, few_functions, distinct_here}
use Rattle.forest.specs.FactorGraph.{layout_graph}
use Rattle.hanging.specs.declared.function_set.FunctionSet.{FunctionSet}
use Rattle.hanging.specs.declared.hung.Hung.{Hung}
use Rattle.hanging.specs.declared.node.Node.{Node}
use Rattle.hanging.specs.declared.node.Node.TheVariants as node
use Rattle.hanging.specs.FunctionSet.{in_set, First}
use Rattle.hanging.specs.Hung.{variable_at, function_at, hung_node}
use Rattle.hanging.specs.Kept.{Kept, Linked, Neighbours}
use Rattle.hanging.specs.Around.{no_functions, Around}
use Rattle.hanging.specs.Growing.{Sound, Grows, Hangs, HangsVariable, HangsFunction, FreeVariable, FreeFunction}
use Rattle.hanging.proofs.Marking.{marks_variable, marks_function, own_variable}
use Rattle.hanging.proofs.Place.{place_found}
use Rattle.hanging.proofs.Growing.{grows_none, stays, grows_then, grows_child, child_hung}

pub variable_same : (v w : ℕ) → node.Variable v ≡ node.Variable w → v ≡ w
variable_same v w e = cc

function_variable : (f v : ℕ) → node.Function f ≡ node.Variable v → ⊥
function_variable f v e = let z : ◌≡◌ {A = ℕ} 0 1 = cc in omega arith

module _ (l : Layout) (K : ℕ → Bool) where
  abbrev G_left : ℕ → ℕ
  G_left n = (layout_graph l).left n

  kept_small : (n : ℕ) → Kept l K n → n < 256
  kept_small n k = omega (arith, k.below, few_functions l)

  pub left_known : (n : ℕ) → Kept l K n → G_left n < length (domains_of l)
  left_known n k =
      let place = ltb-true (n % 4) (length (scope_in l (n / 4))) k.there in
      omega (arith, l.known (n / 4) (omega (arith, k.below)) (n % 4) place)

  linked_small : {v f : ℕ} → Linked l K v f → f < 64
  linked_small k = omega (arith, kept_small k.link k.kept, k.function)

  -- The functions that kept links join to v are hung, except those that are left.
  pub record Functions (v : ℕ) (s t : Hung) (left : FunctionSet) : Type 0 where
    pub sound : Sound l K t
    pub grows : Grows l K (node.Variable v) s t
    pub linked : (f : ℕ) → f < 64 → in_set left f ≡ true → Linked l K v f
    pub done : (f : ℕ) → Linked l K v f → (in_set left f ≡ true) ⊎ (is_some (function_at t f).parent ≡ true)

  -- The neighbours of f by its first i places are hung.
  pub record Places (f : ℕ) (s t : Hung) (i : ℕ) : Type 0 where
    pub sound : Sound l K t
    pub grows : Grows l K (node.Function f) s t
    pub done : (p : ℕ) → p < i → Kept l K (4 * f + p) → (variable_at t (G_left (4 * f + p))).hung ≡ true

  pub functions_all : (v : ℕ) (s : Hung) → Sound l K s → (sets : List FunctionSet) → Around l K sets → Functions v s s (get_or sets v no_functions)
  functions_all v s sound sets around = record {
    sound = sound;
    grows = grows_none l K (node.Variable v) s;
    linked = λ f _. (around v f).0;
    done = λ f k. inl ((around v f).1 k);
  }

  pub places_none : (f : ℕ) (s : Hung) → Sound l K s → Places f s s 0
  places_none f s sound = record { sound = sound; grows = grows_none l K (node.Function f) s; done = λ p h. absurd (omega arith) }

  -- the function f is taken from those that are left
  module _ {v f : ℕ} {s t : Hung} {left rest : FunctionSet} (inv : Functions v s t left) (first : First left f rest) where
    linked_here : Linked l K v f
    linked_here = inv.linked f first.within first.was

    linked_rest : (g : ℕ) → g < 64 → in_set rest g ≡ true → Linked l K v g
    linked_rest g lt h = ⊎_elim
        (λ same. subst (Linked l K v) (sym same) linked_here)
        (λ other. inv.linked g lt (sym (first.others g lt other) ∙ h))
        (cases_eq g f)

    -- once f is hung too, each is hung or still left
    done_rest : (u : Hung) → is_some (function_at u f).parent ≡ true → ((g : ℕ) → is_some (function_at t g).parent ≡ true → is_some (function_at u g).parent ≡ true) →
        (g : ℕ) → Linked l K v g → (in_set rest g ≡ true) ⊎ (is_some (function_at u g).parent ≡ true)
    done_rest u here still g k = ⊎_elim
        (λ same. inr (subst (λ x. is_some (function_at u x).parent ≡ true) (sym same) here))
        (λ other. ⊎_elim (λ h. inl (first.others g (linked_small k) other ∙ h)) (λ h. inr (still g h)) (inv.done g k))
        (cases_eq g f)

    -- it is hung already
    pub function_had : is_some (function_at t f).parent ≡ true → Functions v s t rest
    function_had here = record { sound = inv.sound; grows = inv.grows; linked = linked_rest; done = done_rest t here (λ g h. h) }

    -- it is hung by the place p, at which v is found
    module _ (up : (variable_at s v).hung ≡ true) (free : is_some (function_at t f).parent ≡ false) (p : ℕ) (found : p ≡ unwrap_or (position (λ (w : ℕ). w == v) (scope_in l f)) 0) where
      -- this is the place of the kept link
      link_is : 4 * f + p ≡ linked_here.link
      link_is =
          let n = linked_here.link in
          let q = n % 4 in
          let there = ltb-true q (length (scope_in l (n / 4))) linked_here.kept.there in
          let scope : scope_in l (n / 4) ≡ scope_in l f = ap (scope_in l) linked_here.function in
          let known : f < length (scopes_of l) = omega (arith, linked_here.kept.below, linked_here.function) in
          let within : q < length (scope_in l f) = omega (arith, there, ap length scope) in
          let ends : get_or (scope_in l f) q 0 ≡ v = sym (ap (λ s. get_or s q 0) scope) ∙ linked_here.variable in
          let at = ap (λ o. unwrap_or o 0) (place_found (scope_in l f) v q (λ i j. distinct_here l f i j known) within ends) in
          omega (arith, found, at, linked_here.function)

      pub function_free : FreeFunction l K t f p
      function_free = record {
        within = first.within;
        loose = free;
        place = omega (arith, link_is, linked_here.function);
        kept = subst (Kept l K) (sym link_is) linked_here.kept;
        above = subst (λ w. (variable_at t w).hung ≡ true) (sym (ap G_left link_is ∙ linked_here.variable)) (stays l K inv.grows (node.Variable v) up);
      }

      pub function_hung : {u : Hung} → HangsFunction l K t f p u → Functions v s u rest
      function_hung {u} (m, with, h) =
          let marked = marks_function l K inv.sound function_free with in
          let child : (w : ℕ) → node.Function f ≡ node.Variable w → (variable_at m w).parent ≡ None → ⊥ = λ w e _. function_variable f w e in
          let step = grows_child l K (node.Variable v) (node.Function f) linked_here marked h child in
          record {
            sound = h.sound;
            grows = grows_then l K inv.grows step;
            linked = linked_rest;
            done = done_rest u (child_hung l K (node.Variable v) (node.Function f) linked_here marked h child) (λ g. stays l K step (node.Function g));
          }

  module _ {f : ℕ} {s t : Hung} (i : ℕ) (inv : Places f s t i) where
    -- no variable is hung
    pub place_same : {x : Hung} → x ≡ t → (Kept l K (4 * f + i) → (variable_at t (G_left (4 * f + i))).hung ≡ true) → Places f s x (i + 1)
    place_same is here = subst (λ x. Places f s x (i + 1)) (sym is) (record { sound = inv.sound; grows = inv.grows; done = below_more _ i inv.done here })

    -- its variable is hung already
    pub place_had : {x : Hung} → x ≡ t → (v : ℕ) → G_left (4 * f + i) ≡ v → (variable_at t v).hung ≡ true → Places f s x (i + 1)
    place_had is v end h = place_same is (λ _. subst (λ w. (variable_at t w).hung ≡ true) (sym end) h)

    -- its variable is hung
    module _ (v : ℕ) (four : i < 4) (kept : Kept l K (4 * f + i)) (end : G_left (4 * f + i) ≡ v) (up : is_some (function_at s f).parent ≡ true) (free : (variable_at t v).hung ≡ false) where
      joined_here : Linked l K v f
      joined_here = record { link = 4 * f + i; kept = kept; variable = end; function = omega arith }

      small : v < 64
      small = omega (arith, left_known (4 * f + i) kept, end, few_variables l)

      pub place_free : FreeVariable l K t v (Some f)
      place_free = record {
        within = small;
        loose = free;
        linked = λ g e. subst (λ x. Linked l K v x) (same_Some f g e) joined_here;
        above = λ g e. subst (λ x. is_some (function_at t x).parent ≡ true) (same_Some f g e) (stays l K inv.grows (node.Function f) up);
      }

      pub place_hung : {x u : Hung} → x ≡ u → HangsVariable l K t v (Some f) u → Places f s x (i + 1)
      place_hung {x} {u} is (m, with, h) =
          let lt : v < length t.variables = omega (arith, small, inv.sound.sizes.0) in
          let marked = marks_variable l K inv.sound place_free with in
          let own = ap (λ x. x.parent) (own_variable with lt free) in
          let child : (w : ℕ) → node.Variable v ≡ node.Variable w → (variable_at m w).parent ≡ None → ⊥ =
          λ w e none. none-some f (sym none ∙ ap (λ u. (variable_at m u).parent) (sym (variable_same v w e)) ∙ own) in
          let step = grows_child l K (node.Function f) (node.Variable v) joined_here marked h child in
          subst (λ y. Places f s y (i + 1)) (sym is) (record {
            sound = h.sound;
            grows = grows_then l K inv.grows step;
            done = below_more _ i (λ p lt k. stays l K step (node.Variable (G_left (4 * f + p))) (inv.done p lt k))
                (λ _. subst (λ w. (variable_at u w).hung ≡ true) (sym end) (child_hung l K (node.Function f) (node.Variable v) joined_here marked h child));
          })

  pub variable_done : (v : ℕ) (s t : Hung) (left : FunctionSet) → Functions v s t left → ((f : ℕ) → in_set left f ≡ false) → Hangs l K (node.Variable v) s t
  variable_done v s t left inv none = record { sound = inv.sound; grows = inv.grows; around = around }
    where
      around : (c : Node) → Neighbours l K (node.Variable v) c → hung_node t c ≡ true
      around (node.Variable w) k = absurd k
      around (node.Function f) k = ⊎_elim (λ h. absurd (both_ways (in_set left f) (none f) h)) (λ h. h) (inv.done f k)

  pub function_done : (f : ℕ) (s t : Hung) → Places f s t 4 → Hangs l K (node.Function f) s t
  function_done f s t inv = record { sound = inv.sound; grows = inv.grows; around = around }
    where
      around : (c : Node) → Neighbours l K (node.Function f) c → hung_node t c ≡ true
      around (node.Variable v) k =
          let at : 4 * f + k.link % 4 ≡ k.link = omega (arith, k.function) in
          subst (λ x. (variable_at t x).hung ≡ true) (ap G_left at ∙ k.variable) (inv.done (k.link % 4) (omega arith) (subst (Kept l K) (sym at) k.kept))
      around (node.Function g) k = absurd k
