-- The functions around each variable. Assumes nothing.
use Rattle.std.specs.Prelude.{◌≡◌, ℕ, Bool, true, ◌↔◌, List, slice_index_or}
use Rattle.layout.specs.declared.layout.Layout.{Layout}
use Rattle.hanging.specs.declared.function_set.FunctionSet.{FunctionSet}
use Rattle.hanging.specs.FunctionSet.{in_set}
use Rattle.hanging.specs.Kept.{Linked}

-- the empty set
abbrev pub no_functions : FunctionSet
no_functions = record { word = 0 }

-- whether the set of the variable v has the function f
abbrev pub around : List FunctionSet → ℕ → ℕ → Bool
around sets v f = in_set (slice_index_or sets v no_functions) f

-- Each variable's set has the functions that kept links join to it, and no other.
abbrev pub Around : Layout → (ℕ → Bool) → List FunctionSet → Type 0
Around l K sets = (v f : ℕ) → (around sets v f ≡ true) ↔ Linked l K v f
