-- How many entries a message of a function is joined of, by the positions of its table. Assumes nothing.
use Rattle.std.proofs.Common.{ℕ, ◌+◌, ◌<◌, ◌≤◌, Bool, ap, ◌∙◌, subst}
use Rattle.std.proofs.lemmas.Bool.{leb-true}
use Rattle.theory.specs.Problem.{Problem, Sound, size, functions}
use Rattle.theory.specs.Forest.{Hanging, WellHung, above}
use Rattle.theory.specs.Messages.{Messages}
use Rattle.messages.specs.Combinations.{combination, sizes_at}
use Rattle.joining.specs.Counts.{counts}
use Rattle.messages.specs.Counts.{one_entry}
use Rattle.messages.specs.Positions.{ParentAt, from_below}
use Rattle.messages.proofs.AtPositions.{plan_there, below_at}
use Rattle.joining.proofs.Counting.{counts_laws}

-- An entry and what comes up to it are at most what the message is joined of.
pub given_within : (P : Problem) (sound : Sound P) (kept : ℕ → Bool) (H : Hanging) (hung : WellHung P kept H) (f : ℕ) (known : f < functions P)
    (n : Messages counts P H one_entry) (x : ℕ) → x < size P (above P H f) → (i : ℕ) → ParentAt P kept H f x i →
    1 + from_below counts P H n.q f (combination (sizes_at P f) i) ≤ n.r f x
given_within P sound kept H hung f known n x fits i there =
    let (y, valid, here, is) = plan_there P sound kept H hung f known x i there in
    let same = below_at counts counts_laws P sound kept H hung f known n.q y valid ∙ ap (λ (j : ℕ). from_below counts P H n.q f (combination (sizes_at P f) j)) is in
    subst (λ (k : ℕ). 1 + k ≤ n.r f x) same (leb-true _ _ ((n.function f x known fits).bound y (valid, here)))
