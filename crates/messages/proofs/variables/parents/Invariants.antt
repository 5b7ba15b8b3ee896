use Rattle.std.proofs.Common.{◌≡◌, ℕ, ◌<◌, length, get_or}
use Rattle.theory.specs.Forest.{above}
use Rattle.messages.specs.Rooted.{problem_in, hanging_in}
use Rattle.messages.proofs.variables.parents.Given as goal

abbrev pub invariant-loop-function : goal.invariant-loop-function
invariant-loop-function l = (length l.parents ≡ 64) × ((f : ℕ) → f < l.function → get_or l.parents f 0 ≡ above (problem_in l.forest) (hanging_in l.forest) f)
