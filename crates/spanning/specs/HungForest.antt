-- All nodes of a problem, hung by the kept links. Assumes nothing.
use Rattle.std.specs.Prelude.{ℕ, Bool}
use Rattle.theory.specs.Problem.{Problem}
use Rattle.theory.specs.Forest.{Hanging, WellHung, LowestRoots}
use Rattle.hanging.specs.declared.hung.Hung.{Hung}
use Rattle.hanging.specs.Forest.{hanging_of, InOrder, SameHanging}

-- The forest of the kept links hangs in r.
pub record HungForest (P : Problem) (kept : ℕ → Bool) (r : Hung) : Type 0 where
  -- By each kept link one end hangs from the other, and no node hangs otherwise.
  pub well : WellHung P kept (hanging_of r)
  -- The roots are the lowest variables of their parts.
  pub lowest : LowestRoots P kept (hanging_of r)
  -- The order lists each node once, after the one that it hangs from.
  pub order : InOrder P r
  -- It hangs so in no other way.
  pub unique : (H : Hanging) → WellHung P kept H → LowestRoots P kept H → SameHanging P H (hanging_of r)
