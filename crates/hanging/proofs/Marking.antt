-- One node more is hung. Assumes nothing.
use Rattle.std.proofs.Common.{◌≡◌, ℕ, ◌+◌, ◌<◌, ◌≤◌, Bool, true, false, cond, not, ◌≢◌, ◌⊎◌, [], ◌∷◌, ◌++◌, length, get_or, Some, Option, is_some, count_by, sym, refl, ap, ◌∙◌, subst, subst₂, inl, inr, ⊎_elim, arith, length-set, get_or-set_other, get_or-set_same}
use Rattle.std.proofs.lemmas.List.Sums.{sum_by-set}
use Rattle.std.proofs.lemmas.List.{get_or_append_left, get_or_push, length_push}
use Rattle.std.proofs.lemmas.Option.{same_Some}
use Rattle.std.proofs.lemmas.Bool.{both_ways, cases_eq, cases_lt}
use Rattle.layout.specs.declared.layout.Layout.{Layout}
use Rattle.hanging.specs.declared.hung.Hung.{Hung}
use Rattle.hanging.specs.declared.node.Variable.{Variable}
use Rattle.hanging.specs.declared.node.Function.{Function}
use Rattle.hanging.specs.declared.node.Node.{Node}
use Rattle.hanging.specs.declared.node.Node.TheVariants as node
use Rattle.hanging.specs.Hung.{no_variable, no_function, no_node, variable_at, function_at, node_at, order_of, count_of, hung_node, loose, WithVariable, WithFunction}
use Rattle.hanging.specs.Growing.{Stands, Before, Listed, Below, Under, Sound, FreeVariable, FreeFunction}

-- From s to t the node a is hung, and no other record changes.
pub record Marked (s t : Hung) (a : Node) : Type 0 where
  pub order : order_of t ≡ order_of s ++ (a ∷ [])
  pub free : hung_node s a ≡ false
  pub hung : hung_node t a ≡ true
  pub others : (b : Node) → (b ≡ a) ⊎ (hung_node t b ≡ hung_node s b)
  pub variables : (v : ℕ) → (variable_at s v).hung ≡ true → variable_at t v ≡ variable_at s v
  pub functions : (f : ℕ) → is_some (function_at s f).parent ≡ true → function_at t f ≡ function_at s f
  pub fewer : loose t + 1 ≡ loose s

module _ {s t : Hung} {v : ℕ} {p : Option ℕ} (m : WithVariable s v p t) (lt : v < length s.variables) (free : (variable_at s v).hung ≡ false) where
  pub own_variable : variable_at t v ≡ record { hung = true; parent = p }
  own_variable = ap (λ xs. get_or xs v no_variable) m.variables ∙ get_or-set_same s.variables v _ no_variable lt

  other_variable : (w : ℕ) → w ≢ v → variable_at t w ≡ variable_at s w
  other_variable w ne = ap (λ xs. get_or xs w no_variable) m.variables ∙ get_or-set_other s.variables v w _ no_variable ne

  same_function : (f : ℕ) → function_at t f ≡ function_at s f
  same_function f = ap (λ xs. get_or xs f no_function) m.functions

  others_of_variable : (b : Node) → (b ≡ node.Variable v) ⊎ (hung_node t b ≡ hung_node s b)
  others_of_variable (node.Variable w) = ⊎_elim (λ same. inl (ap node.Variable same)) (λ ne. inr (ap (λ x. x.hung) (other_variable w ne))) (cases_eq w v)
  others_of_variable (node.Function f) = inr (ap (λ x. is_some x.parent) (same_function f))

  less_variable : loose t + 1 ≡ loose s
  less_variable =
      let e = sum_by-set (λ (x : Variable). cond (not x.hung) 1 0) s.variables v (record { hung = true; parent = p }) no_variable lt in
      let o : ◌≡◌ {A = ℕ} (cond (not (variable_at s v).hung) 1 0) 1 = ap (λ b. cond (not b) 1 0) free in
      omega (arith, e, o, ap (count_by (λ (x : Variable). not x.hung)) m.variables, ap (count_by (λ (x : Function). not (is_some x.parent))) m.functions)

  marked_variable : Marked s t (node.Variable v)
  marked_variable = record {
    order = m.order;
    free = free;
    hung = ap (λ x. x.hung) own_variable;
    others = others_of_variable;
    variables = λ w h. other_variable w (λ same. both_ways (variable_at s v).hung free (subst (λ u. (variable_at s u).hung ≡ true) same h));
    functions = λ f h. same_function f;
    fewer = less_variable;
  }

module _ {s t : Hung} {f p : ℕ} (m : WithFunction s f p t) (lt : f < length s.functions) (free : is_some (function_at s f).parent ≡ false) where
  own_function : function_at t f ≡ record { parent = Some p }
  own_function = ap (λ xs. get_or xs f no_function) m.functions ∙ get_or-set_same s.functions f _ no_function lt

  other_function : (g : ℕ) → g ≢ f → function_at t g ≡ function_at s g
  other_function g ne = ap (λ xs. get_or xs g no_function) m.functions ∙ get_or-set_other s.functions f g _ no_function ne

  same_variable : (v : ℕ) → variable_at t v ≡ variable_at s v
  same_variable v = ap (λ xs. get_or xs v no_variable) m.variables

  others_of_function : (b : Node) → (b ≡ node.Function f) ⊎ (hung_node t b ≡ hung_node s b)
  others_of_function (node.Variable v) = inr (ap (λ x. x.hung) (same_variable v))
  others_of_function (node.Function g) = ⊎_elim (λ same. inl (ap node.Function same)) (λ ne. inr (ap (λ x. is_some x.parent) (other_function g ne))) (cases_eq g f)

  less_function : loose t + 1 ≡ loose s
  less_function =
      let e = sum_by-set (λ (x : Function). cond (not (is_some x.parent)) 1 0) s.functions f (record { parent = Some p }) no_function lt in
      let o : ◌≡◌ {A = ℕ} (cond (not (is_some (function_at s f).parent)) 1 0) 1 = ap (λ b. cond (not b) 1 0) free in
      omega (arith, e, o, ap (count_by (λ (x : Variable). not x.hung)) m.variables, ap (count_by (λ (x : Function). not (is_some x.parent))) m.functions)

  marked_function : Marked s t (node.Function f)
  marked_function = record {
    order = m.order;
    free = free;
    hung = ap (λ x. is_some x.parent) own_function;
    others = others_of_function;
    variables = λ v h. same_variable v;
    functions = λ g h. other_function g (λ same. both_ways (is_some (function_at s f).parent) free (subst (λ e. is_some (function_at s e).parent ≡ true) same h));
    fewer = less_function;
  }

-- The order has one node more.
module _ {s t : Hung} {a : Node} (m : Marked s t a) where
  pub stays_marked : (b : Node) → hung_node s b ≡ true → hung_node t b ≡ true
  stays_marked b h = ⊎_elim (λ e. subst (λ x. hung_node t x ≡ true) (sym e) m.hung) (λ e. e ∙ h) (m.others b)

  one_more : count_of t ≡ count_of s + 1
  one_more = ap length m.order ∙ length_push (order_of s) a

  same_node : (i : ℕ) → i < count_of s → node_at t i ≡ node_at s i
  same_node i h = ap (λ o. get_or o i no_node) m.order ∙ get_or_append_left (order_of s) (a ∷ []) no_node i h

  stands_still : (i : ℕ) (b : Node) → Stands s i b → Stands t i b
  stands_still i b st = record { within = omega (arith, st.within, one_more); here = same_node i st.within ∙ st.here }

  before_still : {b c : Node} → Before s b c → Before t b c
  before_still {b} {c} x = record { first = x.first; second = x.second; less = x.less; one = stands_still x.first b x.one; other = stands_still x.second c x.other }

  module _ (listed : Listed s) where
    new_node : node_at t (count_of s) ≡ a
    new_node = ap (λ o. get_or o (count_of s) no_node) m.order ∙ get_or_push (order_of s) a no_node (count_of s) refl

    stands_new : Stands t (count_of s) a
    stands_new = record { within = omega (arith, one_more); here = new_node }

    -- what was hung before stands before
    before_new : (b : Node) → hung_node s b ≡ true → Before t b a
    before_new b h =
        let at = listed.each b h in
        record { first = at.0; second = count_of s; less = at.1.within; one = stands_still at.0 b at.1; other = stands_new }

    each_more : (b : Node) → hung_node t b ≡ true → (i : ℕ) × Stands t i b
    each_more b h = ⊎_elim
        (λ (e : b ≡ a). (count_of s, subst (λ x. Stands t (count_of s) x) (sym e) stands_new))
        (λ (e : hung_node t b ≡ hung_node s b). let at = listed.each b (sym e ∙ h) in (at.0, stands_still at.0 b at.1))
        (m.others b)

    only_more : (i : ℕ) → i < count_of t → hung_node t (node_at t i) ≡ true
    only_more i h = ⊎_elim
        (λ (lt : i < count_of s). subst (λ x. hung_node t x ≡ true) (sym (same_node i lt)) (stays_marked (node_at s i) (listed.only i lt)))
        (λ (le : count_of s ≤ i).
        let last : i ≡ count_of s = omega (arith, h, one_more) in
        subst (λ x. hung_node t x ≡ true) (sym (ap (node_at t) last ∙ new_node)) m.hung)
        (cases_lt i (count_of s))

    once_more : (i j : ℕ) → i < j → j < count_of t → node_at t i ≡ node_at t j → ⊥
    once_more i j lt h e =
        let small : i < count_of s = omega (arith, h, one_more) in
        ⊎_elim
        (λ (low : j < count_of s). listed.once i j lt low (sym (same_node i small) ∙ e ∙ same_node j low))
        (λ (le : count_of s ≤ j).
        let last : j ≡ count_of s = omega (arith, h, one_more) in
        let same : node_at s i ≡ a = sym (same_node i small) ∙ e ∙ ap (node_at t) last ∙ new_node in
        both_ways (hung_node s a) m.free (subst (λ x. hung_node s x ≡ true) same (listed.only i small)))
        (cases_lt j (count_of s))

    listed_more : Listed t
    listed_more = record { each = each_more; only = only_more; once = once_more }

module _ (l : Layout) (K : ℕ → Bool) {s : Hung} (sound : Sound l K s) where
  module _ {v : ℕ} {p : Option ℕ} (free : FreeVariable l K s v p) {t : Hung} (m : WithVariable s v p t) where
    lt : v < length s.variables
    lt = omega (arith, free.within, sound.sizes.0)

    pub marks_variable : Marked s t (node.Variable v)
    marks_variable = marked_variable m lt free.loose

    below_here : (f : ℕ) → p ≡ Some f → Below l K t v f
    below_here f e = record { linked = free.linked f e; before = before_new marks_variable sound.listed (node.Function f) (free.above f e) }

    below_there : (w f : ℕ) → w ≢ v → (variable_at t w).hung ≡ true → (variable_at t w).parent ≡ Some f → Below l K t w f
    below_there w f ne h e =
        let same = other_variable m lt free.loose w ne in
        let b = sound.below w f (sym (ap (λ x. x.hung) same) ∙ h) (sym (ap (λ x. x.parent) same) ∙ e) in
        record { linked = b.linked; before = before_still marks_variable b.before }

    pub sound_variable : Sound l K t
    sound_variable = record {
      sizes = (ap length m.variables ∙ simp length-set sound.sizes.0, ap length m.functions ∙ sound.sizes.1);
      room = omega (arith, marks_variable.fewer, one_more marks_variable, sound.room);
      listed = listed_more marks_variable sound.listed;
      below = λ w f h e. ⊎_elim
          (λ (same : w ≡ v). subst (λ x. Below l K t x f) (sym same)
          (below_here f (sym (ap (λ x. x.parent) (own_variable m lt free.loose)) ∙ subst (λ x. (variable_at t x).parent ≡ Some f) same e)))
          (λ ne. below_there w f ne h e)
          (cases_eq w v);
      under = λ f q e.
          let u = sound.under f q (sym (ap (λ x. x.parent) (same_function m lt free.loose f)) ∙ e) in
          record { place = u.place; kept = u.kept; before = before_still marks_variable u.before };
    }

  module _ {f p : ℕ} (free : FreeFunction l K s f p) {t : Hung} (m : WithFunction s f p t) where
    lt' : f < length s.functions
    lt' = omega (arith, free.within, sound.sizes.1)

    pub marks_function : Marked s t (node.Function f)
    marks_function = marked_function m lt' free.loose

    under_here : Under l K t f p
    under_here = record { place = free.place; kept = free.kept; before = before_new marks_function sound.listed _ free.above }

    under_there : (g q : ℕ) → g ≢ f → (function_at t g).parent ≡ Some q → Under l K t g q
    under_there g q ne e =
        let u = sound.under g q (sym (ap (λ x. x.parent) (other_function m lt' free.loose g ne)) ∙ e) in
        record { place = u.place; kept = u.kept; before = before_still marks_function u.before }

    pub sound_function : Sound l K t
    sound_function = record {
      sizes = (ap length m.variables ∙ sound.sizes.0, ap length m.functions ∙ simp length-set sound.sizes.1);
      room = omega (arith, marks_function.fewer, one_more marks_function, sound.room);
      listed = listed_more marks_function sound.listed;
      below = λ v g h e.
          let same = same_variable m lt' free.loose v in
          let b = sound.below v g (sym (ap (λ x. x.hung) same) ∙ h) (sym (ap (λ x. x.parent) same) ∙ e) in
          record { linked = b.linked; before = before_still marks_function b.before };
      under = λ g q e. ⊎_elim
          (λ (same : g ≡ f).
          let own = same_Some p q (sym (ap (λ x. x.parent) (own_function m lt' free.loose)) ∙ subst (λ x. (function_at t x).parent ≡ Some q) same e) in
          subst₂ (λ x y. Under l K t x y) (sym same) own under_here)
          (λ ne. under_there g q ne e)
          (cases_eq g f);
    }
