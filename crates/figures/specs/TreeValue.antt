-- The roots' highest messages, and their join. Assumes nothing.
use Rattle.std.specs.Prelude.{◌≡◌, ℕ, ◌<◌, Bool, true, false, Some, None, Option, List, length, slice_index_or}
use Rattle.scale.specs.Rules.{Rules}
use Rattle.theory.specs.Problem.{Problem, Plan, variables, functions, size}
use Rattle.theory.specs.Forest.{Hanging, WellHung, is_root}
use Rattle.theory.specs.Messages.{Messages, tree_value}
use Rattle.joining.specs.Counts.{counts}
use Rattle.messages.specs.Counts.{one_entry}
use Rattle.joining.specs.Standing.{StandsFor}
use Rattle.messages.specs.Sent.{variable_cell, VariableSent}

module _ {V E : Type 0} (R : Rules E) (means : V → E) where
  -- r is one of the values, and none of them is higher. (Each is read at any default.)
  pub record HighestIn (values : List V) (r : V) : Type 0 where
    pub attained : (x : ℕ) × (x < length values) × ((d : V) → r ≡ slice_index_or values x d)
    pub bound : (x : ℕ) → x < length values → (d : V) → R.leq (means (slice_index_or values x d)) (means r) ≡ true

  -- r is one of the first `size` cells of a row, and none of them is higher. (Each cell is read at any default.)
  pub record HighestCell (cells : List V) (row size : ℕ) (r : V) : Type 0 where
    pub attained : (x : ℕ) × (x < size) × ((d : V) → r ≡ slice_index_or cells (variable_cell row x) d)
    pub bound : (x : ℕ) → x < size → (d : V) → R.leq (means (slice_index_or cells (variable_cell row x) d)) (means r) ≡ true

  -- What is given of the variable v: if it is a root, its highest cell, and else nothing.
  abbrev pub RootHighest : Problem → Hanging → List V → ℕ → Option V → Type 0
  RootHighest P H cells v None = is_root H v ≡ false
  RootHighest P H cells v (Some r) = (is_root H v ≡ true) × HighestCell cells v (size P v) r

  -- Whatever the kept links and the cut tables are, if H hangs the forest and the messages of the variables stand in their cells, r stands for the tree
  -- value, joined of at most as many entries as there are functions. (n says of how many entries each message is joined.)
  abbrev pub TreeValueOf : (ℕ → V → Type 0) → Problem → Hanging → List V → V → Type 0
  TreeValueOf within P H cells r =
      (kept : ℕ → Bool) → WellHung P kept H → (cut : ℕ → Plan → E) (m : Messages R P H cut) (n : Messages counts P H one_entry) →
      ((v : ℕ) → v < variables P → VariableSent R means within P kept H cut m n cells v) →
      StandsFor means within (tree_value R P H cut m) (functions P) r
