-- The parts are hung one after another. Assumes nothing.
use Rattle.std.proofs.Common.{◌≡◌, ℕ, zero, suc, ◌+◌, ◌/◌, ◌<◌, ◌≤◌, Bool, true, false, length, get_or, replicate, Some, None, Option, is_some, unwrap_or, sym, refl, ap, ap₂, count_by, not, ◌∙◌, subst, ⊎_elim, arith, below_more}
use Rattle.std.proofs.lemmas.Option.{none-some}
use Rattle.std.proofs.lemmas.Bool.{both_ways, cases_Bool, cases_lt}
use Rattle.theory.specs.Graphs.{Joined, stay, along, back}
use Rattle.theory.proofs.Walks.{joined_sym}
use Rattle.layout.specs.declared.layout.Layout.{Layout}
use Rattle.layout.specs.View.{domains_of}
use Rattle.layout.proofs.Shapes.{few_variables}
use Rattle.forest.specs.FactorGraph.{layout_graph}
use Rattle.hanging.specs.declared.hung.Hung.{Hung}
use Rattle.hanging.specs.declared.node.Variable.{Variable}
use Rattle.hanging.specs.declared.node.Function.{Function}
use Rattle.hanging.specs.declared.node.Node.{Node}
use Rattle.hanging.specs.declared.node.Node.TheVariants as node
use Rattle.hanging.specs.Hung.{no_variable, no_function, variable_at, function_at, count_of, hung_node, loose, NoneHung}
use Rattle.hanging.specs.Kept.{Linked, Neighbours, Reaches}
use Rattle.hanging.specs.Growing.{Sound, Hangs, HangsVariable, FreeVariable}
use Rattle.hanging.proofs.Marking.{Marked, own_variable, marks_variable, stays_marked}
use Rattle.hanging.proofs.Growing.{stays}
use Rattle.hanging.proofs.Turns.{variable_same, left_known}

-- The parts with a variable below i are hung, each whole and from its lowest variable.
pub record PartsHung (l : Layout) (K : ℕ → Bool) (s : Hung) (i : ℕ) : Type 0 where
  pub sound : Sound l K s
  pub first : (v : ℕ) → v < i → (variable_at s v).hung ≡ true
  pub around : (a b : Node) → hung_node s a ≡ true → Neighbours l K a b → hung_node s b ≡ true
  pub known : (v : ℕ) → (variable_at s v).hung ≡ true → v < length (domains_of l)
  -- A root has no lower variable in its part, and any other variable has one.
  pub root : (v : ℕ) → (variable_at s v).hung ≡ true → (variable_at s v).parent ≡ None → (u : ℕ) → u < v → Reaches l K (node.Variable v) (node.Variable u) → ⊥
  pub inner : (v f : ℕ) → (variable_at s v).hung ≡ true → (variable_at s v).parent ≡ Some f → (u : ℕ) × (u < v) × Reaches l K (node.Variable v) (node.Variable u)

repeated : {X : Type 0} (n i : ℕ) (x : X) → get_or (replicate n x) i x ≡ x
repeated zero i x = refl
repeated (suc n) zero x = refl
repeated (suc n) (suc i) x = repeated n i x

pub by_parent : {G : Type 0} (o : Option ℕ) → (o ≡ None → G) → ((f : ℕ) → o ≡ Some f → G) → G
by_parent None none some = none refl
by_parent (Some f) none some = some f refl

pub placed : (o : Option ℕ) → is_some o ≡ true → o ≡ Some (unwrap_or o 0)
placed None h = absurd (both_ways false refl h)
placed (Some p) h = refl

module _ {s : Hung} (none : NoneHung s) where
  none_is_hung : (b : Node) → hung_node s b ≡ false
  none_is_hung (node.Variable v) = ap (λ xs. (get_or xs v no_variable).hung) none.variables ∙ ap (λ x. x.hung) (repeated 64 v no_variable)
  none_is_hung (node.Function f) = ap (λ xs. is_some (get_or xs f no_function).parent) none.functions ∙ ap (λ x. is_some x.parent) (repeated 64 f no_function)

  free_now : {G : Type 0} (b : Node) → hung_node s b ≡ true → G
  free_now b h = absurd (both_ways (hung_node s b) (none_is_hung b) h)

  all_loose : loose s + count_of s ≡ 128
  all_loose =
      ap₂ ◌+◌ (ap₂ ◌+◌ (ap (count_by (λ (x : Variable). not x.hung)) none.variables) (ap (count_by (λ (x : Function). not (is_some x.parent))) none.functions)) (ap length none.order)

  no_position : {G : Type 0} (i : ℕ) → i < count_of s → G
  no_position i h = let few : count_of s ≡ 0 = ap length none.order in absurd (omega arith)

  pub parts_none : (l : Layout) (K : ℕ → Bool) → PartsHung l K s 0
  parts_none l K = record {
    sound = record {
      sizes = (ap length none.variables, ap length none.functions);
      room = all_loose;
      listed = record { each = λ b h. free_now b h; only = λ i h. no_position i h; once = λ i j lt h. no_position j h };
      below = λ v f h. free_now (node.Variable v) h;
      under = λ f p e. free_now (node.Function f) (ap is_some e);
    };
    first = λ v h. absurd (omega arith);
    around = λ a b h. free_now a h;
    known = λ v h. free_now (node.Variable v) h;
    root = λ v h. free_now (node.Variable v) h;
    inner = λ v f h. free_now (node.Variable v) h;
  }

module _ (l : Layout) (K : ℕ → Bool) where
  -- Walks do not leave what is hung.
  module _ {s : Hung} {i : ℕ} (inv : PartsHung l K s i) where
    -- whichever node has the number is hung
    abbrev HungAt : ℕ → Type 0
    HungAt a = ((v : ℕ) → v < length (domains_of l) → v ≡ a → (variable_at s v).hung ≡ true) × ((f : ℕ) → length (domains_of l) + f ≡ a → is_some (function_at s f).parent ≡ true)

    at_variable : (v : ℕ) → v < length (domains_of l) → (variable_at s v).hung ≡ true → HungAt v
    at_variable v small h = (λ w _ e. subst (λ x. (variable_at s x).hung ≡ true) (sym e) h, λ f e. absurd (omega arith))

    at_function : (f : ℕ) → is_some (function_at s f).parent ≡ true → HungAt (length (domains_of l) + f)
    at_function f h = (λ v lt e. absurd (omega arith), λ g e. let same : g ≡ f = omega arith in subst (λ x. is_some (function_at s x).parent ≡ true) (sym same) h)

    carried : {a b : ℕ} → Joined (layout_graph l) K a b → HungAt a → HungAt b
    carried stay h = h
    carried (along n u e j) h =
        let small = left_known l K n u in
        let linked : Linked l K ((layout_graph l).left n) (n / 4) = record { link = n; kept = u; variable = refl; function = refl } in
        carried j (at_function (n / 4) (inv.around (node.Variable ((layout_graph l).left n)) (node.Function (n / 4)) (h.0 ((layout_graph l).left n) small e) linked))
    carried (back n u e j) h =
        let small = left_known l K n u in
        let linked : Linked l K ((layout_graph l).left n) (n / 4) = record { link = n; kept = u; variable = refl; function = refl } in
        carried j (at_variable ((layout_graph l).left n) small (inv.around (node.Function (n / 4)) (node.Variable ((layout_graph l).left n)) (h.1 (n / 4) e) linked))

    -- the variable is hung already
    pub part_same : (variable_at s i).hung ≡ true → PartsHung l K s (i + 1)
    part_same h = record { sound = inv.sound; first = below_more _ i inv.first h; around = inv.around; known = inv.known; root = inv.root; inner = inv.inner }

  -- one part more
  module _ {s : Hung} (v : ℕ) (inv : PartsHung l K s v) (small : v < length (domains_of l)) (loose : (variable_at s v).hung ≡ false) where
    pub root_free : FreeVariable l K s v None
    root_free = record {
      within = omega (arith, few_variables l);
      loose = loose;
      linked = λ f e. absurd (none-some f e);
      above = λ f e. absurd (none-some f e);
    }

    module _ {t : Hung} (hangs : HangsVariable l K s v None t) where
      abbrev m : Hung
      m = hangs.0

      abbrev h : Hangs l K (node.Variable v) m t
      h = hangs.2

      marked : Marked s m (node.Variable v)
      marked = marks_variable l K inv.sound root_free hangs.1

      still : (b : Node) → hung_node s b ≡ true → hung_node t b ≡ true
      still b e = stays l K h.grows b (stays_marked marked b e)

      old : (w : ℕ) → (variable_at s w).hung ≡ true → variable_at t w ≡ variable_at s w
      old w e = let same = marked.variables w e in h.grows.variables w (ap (λ x. x.hung) same ∙ e) ∙ same

      top : (variable_at t v).parent ≡ None
      top =
          let lt : v < length s.variables = omega (arith, root_free.within, inv.sound.sizes.0) in
          ap (λ x. x.parent) (h.grows.variables v marked.hung ∙ own_variable hangs.1 lt loose)

      lowest : (u : ℕ) → u < v → Reaches l K (node.Variable v) (node.Variable u) → ⊥
      lowest u lt j =
          let below : u < length (domains_of l) = omega arith in
          both_ways (variable_at s v).hung loose ((carried inv (joined_sym j) (at_variable inv u below (inv.first u lt))).0 v small refl)

      -- a variable that is hung now was hung before, is the root of this part, or hangs below it
      cases : {G : Type 0} (w : ℕ) → (variable_at t w).hung ≡ true → ((variable_at s w).hung ≡ true → G) → (w ≡ v → G)
          → (v < w → (variable_at m w).hung ≡ false → G) → G
      cases w y before here after = ⊎_elim before
          (λ (x : (variable_at s w).hung ≡ false). ⊎_elim
          (λ (e : node.Variable w ≡ node.Variable v). here (variable_same w v e))
          (λ (e : (variable_at m w).hung ≡ (variable_at s w).hung). ⊎_elim
          (λ (lt : w < v). absurd (both_ways (variable_at s w).hung x (inv.first w lt)))
          (λ (le : v ≤ w). ⊎_elim (λ (lt : v < w). after lt (e ∙ x)) (λ (ge : w ≤ v). here (omega arith)) (cases_lt v w))
          (cases_lt w v))
          (marked.others (node.Variable w)))
          (cases_Bool (variable_at s w).hung)

      around : (a b : Node) → hung_node t a ≡ true → Neighbours l K a b → hung_node t b ≡ true
      around a b y k = ⊎_elim (λ (x : hung_node s a ≡ true). still b (inv.around a b x k))
          (λ (x : hung_node s a ≡ false). ⊎_elim
          (λ (e : a ≡ node.Variable v). h.around b (subst (λ c. Neighbours l K c b) e k))
          (λ (e : hung_node m a ≡ hung_node s a). h.grows.around a b (e ∙ x) y k)
          (marked.others a))
          (cases_Bool (hung_node s a))

      known : (w : ℕ) → (variable_at t w).hung ≡ true → w < length (domains_of l)
      known w y = cases w y (inv.known w) (λ e. omega arith) (λ lt x. by_parent (variable_at t w).parent
          (λ none. absurd (h.grows.inner w x y none))
          (λ f some. let up = (h.sound.below w f y some).linked in omega (arith, left_known l K up.link up.kept, up.variable)))

      root : (w : ℕ) → (variable_at t w).hung ≡ true → (variable_at t w).parent ≡ None → (u : ℕ) → u < w → Reaches l K (node.Variable w) (node.Variable u) → ⊥
      root w y none = cases w y
          (λ x. inv.root w x (sym (ap (λ r. r.parent) (old w x)) ∙ none))
          (λ e. subst (λ z. (u : ℕ) → u < z → Reaches l K (node.Variable z) (node.Variable u) → ⊥) (sym e) lowest)
          (λ lt x. absurd (h.grows.inner w x y none))

      inner : (w f : ℕ) → (variable_at t w).hung ≡ true → (variable_at t w).parent ≡ Some f → (u : ℕ) × (u < w) × Reaches l K (node.Variable w) (node.Variable u)
      inner w f y some = cases w y
          (λ x. inv.inner w f x (sym (ap (λ r. r.parent) (old w x)) ∙ some))
          (λ e. absurd (none-some f (sym top ∙ sym (ap (λ z. (variable_at t z).parent) e) ∙ some)))
          (λ lt x. (v, lt, joined_sym (h.grows.joined (node.Variable w) x y)))

      pub part_hung : PartsHung l K t (v + 1)
      part_hung = record {
        sound = h.sound;
        first = below_more _ v (λ w lt. still (node.Variable w) (inv.first w lt)) (stays l K h.grows (node.Variable v) marked.hung);
        around = around;
        known = known;
        root = root;
        inner = inner;
      }
