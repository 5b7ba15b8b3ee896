-- The plan along the hung order: what is given at a node stays. Assumes nothing.
use Rattle.std.proofs.Common.{◌≡◌, ℕ, zero, suc, ◌+◌, ◌<◌, ◌≤◌, true, List, get_or, replicate, Some, None, Option, sym, refl, ap, ◌∙◌, subst, inl, inr, arith}
use Rattle.std.proofs.lemmas.Bool.{cases_eq, cases_order}
use Rattle.scale.specs.Rules.{Rules}
use Rattle.scale.specs.Laws.{Plain}
use Rattle.theory.specs.Problem.{Problem, Sound, variables, functions, size}
use Rattle.theory.specs.Forest.{Hanging, is_root, above}
use Rattle.theory.proofs.Descent.{above_known}
use Rattle.theory.proofs.Hangs.{root_from}
use Rattle.rules.specs.Figures.{planned}
use Rattle.tables.proofs.Ordered.{within_sizes}
use Rattle.hanging.specs.declared.hung.Hung.{Hung}
use Rattle.hanging.specs.declared.node.Node.{Node}
use Rattle.hanging.specs.declared.node.Node.TheVariants as node
use Rattle.hanging.specs.Forest.{Known}
use Rattle.hanging.specs.Hung.{count_of, node_at}
use Rattle.messages.specs.declared.rooted.RootedForest.{RootedForest}
use Rattle.messages.specs.Rooted.{Rooted, problem_in, kept_in, hanging_in}
use Rattle.messages.specs.Sent.{choice_cell}
use Rattle.picking.specs.LedTo.{LedTo}
use Rattle.picking.specs.Steps.{SmallPlan, LowestBest, ValueAt, Given, chosen_at}
use Rattle.picking.proofs.Leading.{led_to}

zeros : (n v : ℕ) → planned (replicate n 0) v ≡ 0
zeros zero v = refl
zeros (suc n) zero = refl
zeros (suc n) (suc v) = zeros n v

pub small_zeros : SmallPlan (replicate 64 0)
small_zeros = record { long = refl; small = λ v. omega (arith, zeros 64 v) }

-- the node at which a variable gets its value: the function that it hangs from, or for a root itself
abbrev giver : Option ℕ → ℕ → Node
giver None v = node.Variable v
giver (Some f) v = node.Function f

module _ {V E : Type 0} (R : Rules E) (means : V → E) (cells : List V) (choices : List ℕ) where
  -- a variable that does not get its value at the node keeps what it has
  others_same : (P : Problem) (H : Hanging) (a : Node) (before after : List ℕ) → Given R means P H cells choices a before after → (u : ℕ) → (giver (H.var_parent u) u ≡ a → ⊥) → planned after u ≡ planned before u
  others_same P H (node.Variable v) before after given u free =
      given.others u (λ both. free (ap (λ (o : Option ℕ). giver o u) (ap H.var_parent both.0 ∙ root_from (H.var_parent v) both.1) ∙ ap node.Variable both.0))
  others_same P H (node.Function f) before after given u free = given.others u (λ both. free (ap (λ (o : Option ℕ). giver o u) both.1))

  past_same : (P : Problem) (H : Hanging) (a : Node) (before after : List ℕ) → Known P a → Given R means P H cells choices a before after → (u : ℕ) → variables P ≤ u → planned after u ≡ planned before u
  past_same P H (node.Variable v) before after known given u past = given.others u (λ both. let e = both.0 in omega arith)
  past_same P H (node.Function f) before after known given u past = given.others u (λ both. let k = both.0 in omega arith)

  module _ (r : RootedForest) where
    abbrev P : Problem
    P = problem_in r

    abbrev hung : Hung
    hung = r.hung.now

    abbrev H : Hanging
    H = hanging_in r

    -- Along the first i nodes of the order: each variable that gets its value at one of them has it.
    pub record Along (i : ℕ) (plan : List ℕ) : Type 0 where
      pub root : (v j : ℕ) → v < variables P → is_root H v ≡ true → j < i → node_at hung j ≡ node.Variable v → LowestBest R means cells v (size P v) (planned plan v)
      pub below : (v f j : ℕ) → v < variables P → H.var_parent v ≡ Some f → j < i → node_at hung j ≡ node.Function f →
          ValueAt P f (chosen_at P H choices plan f) v (planned plan v)
      pub past : (v : ℕ) → variables P ≤ v → planned plan v ≡ 0

    -- at the start no node is passed
    pub none_along : Along 0 (replicate 64 0)
    none_along = record {
      root = λ v j k e h. absurd (omega arith);
      below = λ v f j k e h. absurd (omega arith);
      past = λ v h. zeros 64 v;
    }

    module _ (rooted : Rooted r) where
      sound : Sound P
      sound = (within_sizes r.tables.now).sound

      -- each node stands at one position
      one_position : (j k : ℕ) → j < count_of hung → k < count_of hung → node_at hung j ≡ node_at hung k → j ≡ k
      one_position j k h h' e = elim (cases_order j k) [
        | inl same ↦ same
        | inr (inl less) ↦ absurd (rooted.order.once j k less h' e)
        | inr (inr more) ↦ absurd (rooted.order.once k j more h (sym e))
      ]

      -- a variable gets its value no later than at its own position
      giver_first : (u i k : ℕ) (o : Option ℕ) → H.var_parent u ≡ o → u < variables P → i < count_of hung → k < count_of hung → node_at hung k ≡ node.Variable u → giver o u ≡ node_at hung i → i ≤ k
      giver_first u i k None parent known inside there here gives = let same = one_position i k inside there (sym gives ∙ sym here) in omega arith
      giver_first u i k (Some g) parent known inside there here gives =
          let before = rooted.order.below u g known parent in
          let one = before.one in
          let other = before.other in
          let first = one_position before.first i one.within inside (one.here ∙ gives) in
          let second = one_position before.second k other.within there (other.here ∙ sym here) in
          omega (arith, before.less)

      -- the variable that a function hangs from has its value before the function's position
      above_earlier : (f i j : ℕ) → f < functions P → i < count_of hung → j ≤ i → node_at hung j ≡ node.Function f → giver (H.var_parent (above P H f)) (above P H f) ≡ node_at hung i → ⊥
      above_earlier f i j known inside late here gives =
          let u = above P H f in
          let before = rooted.order.under f known in
          let one = before.one in
          let other = before.other in
          let second = one_position before.second j other.within (omega arith) (other.here ∙ sym here) in
          let first = giver_first u i before.first (H.var_parent u) refl (above_known P sound (kept_in r) H rooted.well f known) inside one.within one.here gives in
          omega (arith, before.less)

      module _ (i : ℕ) (inside : i < count_of hung) (before after : List ℕ) (so_far : Along i before) (given : Given R means P H cells choices (node_at hung i) before after) where
        same : (u : ℕ) → (giver (H.var_parent u) u ≡ node_at hung i → ⊥) → planned after u ≡ planned before u
        same = others_same P H (node_at hung i) before after given

        at_node : (a : Node) → node_at hung i ≡ a → Given R means P H cells choices a before after
        at_node a e = subst (λ (b : Node). Given R means P H cells choices b before after) e given

        root_more : (v j : ℕ) → v < variables P → is_root H v ≡ true → j < i + 1 → node_at hung j ≡ node.Variable v → LowestBest R means cells v (size P v) (planned after v)
        root_more v j known root h here = elim (cases_eq j i) [
          | inl e ↦ (at_node (node.Variable v) (ap (node_at hung) (sym e) ∙ here)).root root
          | inr d ↦
              let gives : giver (H.var_parent v) v ≡ node_at hung j = ap (λ (o : Option ℕ). giver o v) (root_from (H.var_parent v) root) ∙ sym here in
              subst (LowestBest R means cells v (size P v)) (sym (same v (λ e. d (one_position j i (omega arith) inside (sym gives ∙ e)))))
              (so_far.root v j known root (omega arith) here)
        ]

        below_more : (v f j : ℕ) → v < variables P → H.var_parent v ≡ Some f → j < i + 1 → node_at hung j ≡ node.Function f →
            ValueAt P f (chosen_at P H choices after f) v (planned after v)
        below_more v f j known parent h here =
            let steady = same (above P H f) (above_earlier f i j (rooted.well.var_known v f known parent) inside (omega arith) here) in
            let choice : chosen_at P H choices before f ≡ chosen_at P H choices after f = ap (λ (x : ℕ). get_or choices (choice_cell f x) 0) (sym steady) in
            subst (λ (n : ℕ). ValueAt P f n v (planned after v)) choice (elim (cases_eq j i) [
              | inl e ↦ (at_node (node.Function f) (ap (node_at hung) (sym e) ∙ here)).below v known parent
              | inr d ↦
                  let gives : giver (H.var_parent v) v ≡ node_at hung j = ap (λ (o : Option ℕ). giver o v) parent ∙ sym here in
                  subst (ValueAt P f (chosen_at P H choices before f) v) (sym (same v (λ e. d (one_position j i (omega arith) inside (sym gives ∙ e)))))
                  (so_far.below v f j known parent (omega arith) here)
            ])

        pub along_more : Along (i + 1) after
        along_more = record {
          root = root_more;
          below = below_more;
          past = λ v h. past_same P H (node_at hung i) before after (rooted.order.only i inside) given v h ∙ so_far.past v h;
        }

      -- once all nodes are passed, each variable has its value
      module _ (plan : List ℕ) (done : Along (count_of hung) plan) where
        root_done : (v : ℕ) → v < variables P → is_root H v ≡ true → LowestBest R means cells v (size P v) (planned plan v)
        root_done v known root = let (j, stands) = rooted.order.each (node.Variable v) known in done.root v j known root stands.within stands.here

        below_done : (v f : ℕ) → v < variables P → H.var_parent v ≡ Some f → ValueAt P f (chosen_at P H choices plan f) v (planned plan v)
        below_done v f known parent =
            let (j, stands) = rooted.order.each (node.Function f) (rooted.well.var_known v f known parent) in done.below v f j known parent stands.within stands.here

        pub done_led_to : Plain R → (within : ℕ → V → Type 0) → V → LedTo R means within P (kept_in r) H cells choices (planned plan)
        done_led_to L within d = led_to R L means within P sound (kept_in r) H rooted.well choices (planned plan) cells root_done below_done d
