-- The plan that the messages on the boards lead to. Assumes nothing.
use Rattle.std.specs.Prelude.{◌≡◌, ℕ, ◌<◌, Bool, List, slice_index}
use Rattle.scale.specs.Rules.{Rules}
use Rattle.theory.specs.Problem.{Problem, Plan, functions, size, position}
use Rattle.theory.specs.Forest.{Hanging, above}
use Rattle.theory.specs.Messages.{Messages}
use Rattle.rules.specs.Report.{Takes, Chosen}
use Rattle.joining.specs.Counts.{counts}
use Rattle.messages.specs.Counts.{one_entry}
use Rattle.messages.specs.Sent.{Sent, choice_cell}

module _ {V E : Type 0} (R : Rules E) (means : V → E) (within : ℕ → V → Type 0) (P : Problem) (kept : ℕ → Bool) (H : Hanging) where
  -- `takes` is what each function takes at each value of its parent, and the choices hold where it stands in the function's table.
  abbrev pub TakesHeld : (cut : ℕ → Plan → E) → Messages R P H cut → List ℕ → (ℕ → ℕ → Plan) → Type 0
  TakesHeld cut m choices takes =
      (f x : ℕ) → f < functions P → x < size P (above P H f) → Takes R P kept H cut m f x (takes f x) × (position P f (takes f x) ≡ slice_index choices (choice_cell f x))

  -- Whatever messages the boards hold, with the choices of the functions, y is the plan that is chosen by them.
  pub record LedTo (cells : List V) (choices : List ℕ) (y : Plan) : Type 0 where
    pub chosen : (cut : ℕ → Plan → E) (m : Messages R P H cut) (n : Messages counts P H one_entry) → Sent R means within P kept H cut m n cells choices →
        (takes : ℕ → ℕ → Plan) → TakesHeld cut m choices takes → Chosen R P kept H cut m takes y
