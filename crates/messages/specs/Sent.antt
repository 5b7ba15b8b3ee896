-- What the boards hold when all messages are sent. Assumes nothing.
use Rattle.std.specs.Prelude.{◌≡◌, ℕ, ◌+◌, ◌*◌, ◌<◌, Bool, List, slice_index}
use Rattle.scale.specs.Rules.{Rules}
use Rattle.theory.specs.Problem as problem
use Rattle.theory.specs.Problem.{Problem, Plan, size, position}
use Rattle.theory.specs.Forest.{Hanging, above}
use Rattle.theory.specs.Messages.{Messages}
use Rattle.rules.specs.Report.{Takes}
use Rattle.joining.specs.Counts.{counts}
use Rattle.messages.specs.Counts.{one_entry}
use Rattle.messages.specs.Holding.{Holds}

-- the cell of a variable's message at its value x, of a function's at its parent's value x, and of a function's choice there
abbrev pub variable_cell : ℕ → ℕ → ℕ
variable_cell v x = 16 * v + x

abbrev pub function_cell : ℕ → ℕ → ℕ
function_cell f x = 16 * (64 + f) + x

abbrev pub choice_cell : ℕ → ℕ → ℕ
choice_cell f x = 16 * f + x

module _ {V E : Type 0} (R : Rules E) (means : V → E) (within : ℕ → V → Type 0)
    (P : Problem) (kept : ℕ → Bool) (H : Hanging) (cut : ℕ → Plan → E) (m : Messages R P H cut) (n : Messages counts P H one_entry) where
  -- `choice` is the index that the function f takes at the value x of its parent.
  abbrev pub Choice : ℕ → ℕ → ℕ → Type 0
  Choice f x choice = (y : Plan) × Takes R P kept H cut m f x y × (position P f y ≡ choice)

  -- The message of a variable, and that of a function with its choices, stand in their cells; n says of how many entries each is joined.
  abbrev pub VariableSent : List V → ℕ → Type 0
  VariableSent cells v = (x : ℕ) → x < size P v → Holds means within cells (variable_cell v x) (m.q v x) (n.q v x)

  abbrev pub FunctionSent : List V → List ℕ → ℕ → Type 0
  FunctionSent cells choices f =
      (x : ℕ) → x < size P (above P H f) →
      Holds means within cells (function_cell f x) (m.r f x) (n.r f x) × Choice f x (slice_index choices (choice_cell f x))

  pub record Sent (cells : List V) (choices : List ℕ) : Type 0 where
    pub variables : (v : ℕ) → v < problem.variables P → VariableSent cells v
    pub functions : (f : ℕ) → f < problem.functions P → FunctionSent cells choices f
