-- One node more along the order: what its message needs stands there, and what stood stays. Assumes nothing.
use Rattle.std.proofs.Common.{◌≡◌, ℕ, ◌<◌, Bool, List, get_or, sym, refl, ap, ◌∙◌, subst, inl, inr, arith}
use Rattle.std.proofs.lemmas.Bool.{cases_lt, cases_eq}
use Rattle.scale.specs.Rules.{Rules}
use Rattle.theory.specs.Cut.{IsCut}
use Rattle.theory.specs.Forest.{Hanging, above}
use Rattle.theory.specs.Messages.{Messages}
use Rattle.theory.specs.Problem.{Problem, Plan, variables, functions, size}
use Rattle.theory.specs.Sizes.{Fits}
use Rattle.hanging.specs.declared.hung.Hung.{Hung}
use Rattle.hanging.specs.declared.node.Node.{Node}
use Rattle.hanging.specs.declared.node.Node.TheVariants as node
use Rattle.hanging.specs.Forest.{hanging_of, Known, InOrder}
use Rattle.hanging.specs.Growing.{Before}
use Rattle.hanging.specs.Hung.{count_of, node_at}
use Rattle.joining.specs.Counts.{counts}
use Rattle.messages.specs.Counts.{one_entry}
use Rattle.joining.specs.Standing.{StandsFor}
use Rattle.messages.specs.Sending.{node_cells, node_choices, SendsNode}
use Rattle.messages.specs.Sent.{variable_cell, function_cell, choice_cell, VariableSent, FunctionSent}

-- no two nodes share a cell
module _ (P : Problem) (fits : Fits P) (H : Hanging) (well-above : (f : ℕ) → f < functions P → above P H f < variables P) where
  pub cells_apart : (a b : Node) (k : ℕ) → Known P a → Known P b → (a ≡ b → ⊥) → node_cells P H a k → node_cells P H b k → ⊥
  cells_apart (node.Variable v) (node.Variable w) k p q apart (x, low, e) (y, low', e') =
      let few = fits.small_domains v p in
      let few' = fits.small_domains w q in
      apart (ap node.Variable (omega arith))
  cells_apart (node.Variable v) (node.Function f) k p q apart (x, low, e) (y, low', e') =
      let few = fits.small_domains v p in
      omega (arith, fits.few_variables)
  cells_apart (node.Function f) (node.Variable v) k p q apart (x, low, e) (y, low', e') =
      let few = fits.small_domains v q in
      omega (arith, fits.few_variables)
  cells_apart (node.Function f) (node.Function h) k p q apart (x, low, e) (y, low', e') =
      let few = fits.small_domains (above P H f) (well-above f p) in
      let few' = fits.small_domains (above P H h) (well-above h q) in
      apart (ap node.Function (omega arith))

  pub choices_apart : (a b : Node) (k : ℕ) → Known P a → Known P b → (a ≡ b → ⊥) → node_choices P H a k → node_choices P H b k → ⊥
  choices_apart (node.Variable v) b k p q apart c d = c
  choices_apart (node.Function f) (node.Variable w) k p q apart c d = d
  choices_apart (node.Function f) (node.Function h) k p q apart (x, low, e) (y, low', e') =
      let few = fits.small_domains (above P H f) (well-above f p) in
      let few' = fits.small_domains (above P H h) (well-above h q) in
      apart (ap node.Function (omega arith))

module _ {V E : Type 0} (R : Rules E) (means : V → E) (within : ℕ → V → Type 0) (P : Problem) (kept : ℕ → Bool) (H : Hanging)
    (cut : ℕ → Plan → E) (m : Messages R P H cut) (n : Messages counts P H one_entry) where
  -- The message of a node stands in the boards.
  abbrev pub NodeSent : List V → List ℕ → Node → Type 0
  NodeSent cells choices (node.Variable v) = VariableSent R means within P kept H cut m n cells v
  NodeSent cells choices (node.Function f) = FunctionSent R means within P kept H cut m n cells choices f

  -- in boards that are the same at the node's cells
  pub sent_on : (b : Node) (cells cells' : List V) (choices choices' : List ℕ) →
      ((k : ℕ) (d : V) → node_cells P H b k → get_or cells' k d ≡ get_or cells k d) → ((k : ℕ) → node_choices P H b k → get_or choices' k 0 ≡ get_or choices k 0) →
      NodeSent cells choices b → NodeSent cells' choices' b
  sent_on (node.Variable v) cells cells' choices choices' same same' sent = λ x h d.
      subst (StandsFor means within (m.q v x) (n.q v x)) (sym (same (variable_cell v x) d (x, h, refl))) (sent x h d)
  sent_on (node.Function f) cells cells' choices choices' same same' sent = λ x h.
      let (stands, (y, takes, is)) = sent x h in (
        λ d. subst (StandsFor means within (m.r f x) (n.r f x)) (sym (same (function_cell f x) d (x, h, refl))) (stands d),
        (y, takes, is ∙ sym (same' (choice_cell f x) (x, h, refl))),
      )

-- The node at position p of the order, where those behind it are sent.
module _ (P : Problem) (r : Hung) (order : InOrder P r) where
  at_once : (i j : ℕ) → i < count_of r → j < count_of r → node_at r i ≡ node_at r j → i ≡ j
  at_once i j h k e = elim (cases_eq i j) [
    | inl d ↦ d
    | inr d ↦ elim (cases_lt i j) [ inl l ↦ absurd (order.once i j l k e) | inr l ↦ absurd (order.once j i (omega arith) h (sym e)) ]
  ]

  -- what stands behind the node at p
  behind : (a b : Node) (p : ℕ) → p < count_of r → node_at r p ≡ a → Before r a b → (i : ℕ) × (p < i) × (i < count_of r) × (node_at r i ≡ b)
  behind a b p h is before =
      let same = at_once before.first p before.one.within h (before.one.here ∙ sym is) in
      (before.second, let l = before.less in omega arith, before.other.within, before.other.here)

  module _ {V E : Type 0} (R : Rules E) (means : V → E) (within : ℕ → V → Type 0) (kept : ℕ → Bool) (before cells : List V) (choices choices' : List ℕ) where
    abbrev H : Hanging
    H = hanging_of r

    -- the node's message, from those behind it
    pub sent_here : (b : Node) (p : ℕ) → p < count_of r → node_at r p ≡ b → Known P b → SendsNode R means within P kept H b before cells choices' →
        (cut : ℕ → Plan → E) (is_cut : IsCut R P kept cut) (m : Messages R P H cut) (n : Messages counts P H one_entry) →
        ((i : ℕ) → p < i → i < count_of r → NodeSent R means within P kept H cut m n before choices (node_at r i)) →
        NodeSent R means within P kept H cut m n cells choices' b
    sent_here (node.Variable v) p h is known sends cut is_cut m n later =
        sends cut is_cut m n (λ f low above-is x small.
        let (i, l, k, e) = behind (node.Variable v) (node.Function f) p h is (subst (λ (u : ℕ). Before r (node.Variable u) (node.Function f)) above-is (order.under f low)) in
        let there = subst (NodeSent R means within P kept H cut m n before choices) e (later i l k) in
        (there x (subst (λ (u : ℕ). x < size P u) (sym above-is) small)).0)
    sent_here (node.Function f) p h is known sends cut is_cut m n later =
        sends cut is_cut m n (λ u low hung.
        let (i, l, k, e) = behind (node.Function f) (node.Variable u) p h is (order.below u f low hung) in
        subst (NodeSent R means within P kept H cut m n before choices) e (later i l k))
