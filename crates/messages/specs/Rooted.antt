-- What a rooted forest is of, and when it is hung. Assumes nothing.
use Rattle.std.specs.Prelude.{◌≡◌, ℕ, ◌<◌, Bool, List, slice_index}
use Rattle.theory.specs.Forest.{Hanging, WellHung, above}
use Rattle.theory.specs.Kept.{kept_at}
use Rattle.theory.specs.Problem.{Problem, functions}
use Rattle.tables.specs.View.{problem_of}
use Rattle.hanging.specs.Forest.{hanging_of, InOrder}
use Rattle.messages.specs.declared.rooted.RootedForest.{RootedForest}

-- its problem, its kept links, and what each node hangs from
abbrev pub problem_in : RootedForest → Problem
problem_in r = problem_of r.tables.now

abbrev pub kept_in : RootedForest → ℕ → Bool
kept_in r = kept_at r.kept.now.words

abbrev pub hanging_in : RootedForest → Hanging
hanging_in r = hanging_of r.hung.now

-- All nodes hang by the kept links, and stand in the order after the nodes that they hang from.
pub record Rooted (r : RootedForest) : Type 0 where
  pub well : WellHung (problem_in r) (kept_in r) (hanging_in r)
  pub order : InOrder (problem_in r) r.hung.now

-- the variable that each function hangs from
abbrev pub Parents : RootedForest → List ℕ → Type 0
Parents r parents = (f : ℕ) → f < functions (problem_in r) → slice_index parents f ≡ above (problem_in r) (hanging_in r) f
