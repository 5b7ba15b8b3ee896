-- Where all messages are sent, the choices hold what some `takes` says. Assumes nothing.
use Rattle.std.proofs.Common.{◌≡◌, ℕ, ◌<◌, Bool, List, get_or, inl, inr, arith}
use Rattle.std.proofs.lemmas.Bool.{cases_lt}
use Rattle.scale.specs.Rules.{Rules}
use Rattle.theory.specs.Problem.{Problem, Plan, functions, size, position}
use Rattle.theory.specs.Forest.{Hanging, above}
use Rattle.theory.specs.Messages.{Messages}
use Rattle.theory.proofs.Plans.{nothing}
use Rattle.rules.specs.Report.{Takes}
use Rattle.joining.specs.Counts.{counts}
use Rattle.messages.specs.Counts.{one_entry}
use Rattle.messages.specs.Sent.{Sent, choice_cell}
use Rattle.picking.specs.LedTo.{TakesHeld}

module _ {V E : Type 0} (R : Rules E) (means : V → E) (within : ℕ → V → Type 0) (P : Problem) (kept : ℕ → Bool) (H : Hanging)
    (cut : ℕ → Plan → E) (m : Messages R P H cut) (n : Messages counts P H one_entry) (cells : List V) (choices : List ℕ)
    (sent : Sent R means within P kept H cut m n cells choices) where
  held_at : (f x : ℕ) → (z : Plan) × (f < functions P → x < size P (above P H f) → Takes R P kept H cut m f x z × (position P f z ≡ get_or choices (choice_cell f x) 0))
  held_at f x = elim (cases_lt f (functions P)) [
    | inl known ↦ elim (cases_lt x (size P (above P H f))) [
      | inl fits ↦ let (z, taken, stands) = (sent.functions f known x fits).1 in (z, λ k h. (taken, stands))
      | inr past ↦ (nothing P, λ k h. absurd (omega arith))
    ]
    | inr past ↦ (nothing P, λ k h. absurd (omega arith))
  ]

  pub some_takes_held : (takes : ℕ → ℕ → Plan) × TakesHeld R means within P kept H cut m choices takes
  some_takes_held = (λ f x. (held_at f x).0, λ f x. (held_at f x).1)
