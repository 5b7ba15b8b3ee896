-- What sending the message of one node does. Assumes nothing.
use Rattle.std.specs.Prelude.{◌≡◌, ℕ, ◌<◌, Bool, ◌⊎◌, List, Some}
use Rattle.scale.specs.Rules.{Rules}
use Rattle.theory.specs.Cut.{IsCut}
use Rattle.theory.specs.Forest.{Hanging, above}
use Rattle.theory.specs.Messages.{Messages}
use Rattle.theory.specs.Problem.{Problem, Plan, variables, functions, size}
use Rattle.hanging.specs.declared.node.Node.{Node}
use Rattle.hanging.specs.declared.node.Node.TheVariants as node
use Rattle.joining.specs.Counts.{counts}
use Rattle.messages.specs.Counts.{one_entry}
use Rattle.messages.specs.Holding.{Holds}
use Rattle.messages.specs.Sent.{variable_cell, function_cell, choice_cell, VariableSent, FunctionSent, Sent}

-- k is a cell of the message of the variable v, of the message of the function f, of its choices
abbrev pub variable_cells : Problem → ℕ → ℕ → Type 0
variable_cells P v k = (x : ℕ) × (x < size P v) × (k ≡ variable_cell v x)

abbrev pub function_cells : Problem → Hanging → ℕ → ℕ → Type 0
function_cells P H f k = (x : ℕ) × (x < size P (above P H f)) × (k ≡ function_cell f x)

abbrev pub choice_cells : Problem → Hanging → ℕ → ℕ → Type 0
choice_cells P H f k = (x : ℕ) × (x < size P (above P H f)) × (k ≡ choice_cell f x)

module _ {V E : Type 0} (R : Rules E) (means : V → E) (within : ℕ → V → Type 0) (P : Problem) (kept : ℕ → Bool) (H : Hanging) where
  -- Where the messages of the variables below f stand in `before`, that of f and its choices stand in the boards after.
  abbrev pub SendsFunction : ℕ → List V → List V → List ℕ → Type 0
  SendsFunction f before cells choices =
      (cut : ℕ → Plan → E) → IsCut R P kept cut → (m : Messages R P H cut) (n : Messages counts P H one_entry) →
      ((u : ℕ) → u < variables P → H.var_parent u ≡ Some f → VariableSent R means within P kept H cut m n before u) →
      FunctionSent R means within P kept H cut m n cells choices f

  -- Where the messages of the functions below v stand in `before`, that of v stands in the cells after.
  abbrev pub SendsVariable : ℕ → List V → List V → Type 0
  SendsVariable v before cells =
      (cut : ℕ → Plan → E) → IsCut R P kept cut → (m : Messages R P H cut) (n : Messages counts P H one_entry) →
      ((f : ℕ) → f < functions P → above P H f ≡ v → (x : ℕ) → x < size P v → Holds means within before (function_cell f x) (m.r f x) (n.r f x)) →
      VariableSent R means within P kept H cut m n cells v

  -- Where the messages of the nodes below the node b stand in `before`, that of b stands in the boards after, with its choices.
  abbrev pub SendsNode : Node → List V → List V → List ℕ → Type 0
  SendsNode (node.Variable v) before cells choices = SendsVariable v before cells
  SendsNode (node.Function f) before cells choices = SendsFunction f before cells choices

  -- All messages stand in the boards, with the choices.
  abbrev pub SendsAll : List V → List ℕ → Type 0
  SendsAll cells choices =
      (cut : ℕ → Plan → E) → IsCut R P kept cut → (m : Messages R P H cut) (n : Messages counts P H one_entry) → Sent R means within P kept H cut m n cells choices

-- k is a cell of the message of a node, or of its choices
abbrev pub node_cells : Problem → Hanging → Node → ℕ → Type 0
node_cells P H (node.Variable v) k = variable_cells P v k
node_cells P H (node.Function f) k = function_cells P H f k

abbrev pub node_choices : Problem → Hanging → Node → ℕ → Type 0
node_choices P H (node.Variable v) k = ⊥
node_choices P H (node.Function f) k = choice_cells P H f k

-- k is a cell of some message, or of some function's choices
abbrev pub message_cells : Problem → Hanging → ℕ → Type 0
message_cells P H k = ((v : ℕ) × (v < variables P) × variable_cells P v k) ⊎ ((f : ℕ) × (f < functions P) × function_cells P H f k)

abbrev pub any_choice_cells : Problem → Hanging → ℕ → Type 0
any_choice_cells P H k = (f : ℕ) × (f < functions P) × choice_cells P H f k
