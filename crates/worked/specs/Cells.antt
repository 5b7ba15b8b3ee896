-- The stores of the pair worked through, in points: what some of their cells hold after a bounded solve. Assumes nothing.
use Rattle.std.specs.Prelude.{◌≡◌, ℕ, ℤ, pos, slice_index, slice_index_or}
use Rattle.scale.specs.Points.{points}
use Rattle.theory.specs.KeptBy.{bounded}
use Rattle.rules.specs.Figures.{Figures, Stores}
use Rattle.rules.specs.Report.{Solved}
use Rattle.worked.specs.Table.{pair}

-- what a cell of the value store holds, and what a cell of the choice store holds
abbrev pub Value : Stores ℤ → ℕ → ℤ → Type 0
Value stores cell value = slice_index_or stores.values cell (pos 0) ≡ value

abbrev pub Choice : Stores ℤ → ℕ → ℕ → Type 0
Choice stores cell index = slice_index stores.choices cell ≡ index

-- Variable 0 is the root, function 1 hangs under it, variable 1 under function 1, and function 0 under variable 1. Each row has 16 cells.
pub record PairCells (stores : Stores ℤ) : Type 0 where
  -- the messages of the variables at their values 0 and 1; and no message where there is no variable
  pub variable_0 : Value stores 0 (pos 3) × Value stores 1 (pos 7)
  pub variable_1 : Value stores 16 (pos 0) × Value stores 17 (pos 2)
  pub no_variable : Value stores 32 (pos 0)
  -- the messages of the functions, at the values of the variables that they hang under: rows 64 and 65
  pub function_0 : Value stores 1024 (pos 0) × Value stores 1025 (pos 2)
  pub function_1 : Value stores 1040 (pos 3) × Value stores 1041 (pos 7)
  -- from row 128 on the weights of the links 0, 1, 4 and 5; and no weight where there is no link
  pub links_of_0 : Value stores 2048 (pos 2) × Value stores 2049 (pos 4)
  pub links_of_1 : Value stores 2052 (pos 5) × Value stores 2053 (pos 5)
  pub no_link : Value stores 2050 (pos 0)
  -- The indexes that the functions take at these values, the first with 0 at its removed place, the second those of the entries 3 and 5; and no index
  -- where there is no function.
  pub choices_0 : Choice stores 0 0 × Choice stores 1 1
  pub choices_1 : Choice stores 16 0 × Choice stores 17 3
  pub no_function : Choice stores 32 0

abbrev pub PairStores : Type 0
PairStores = (figures : Figures ℤ) (stores : Stores ℤ) → Solved points pair bounded figures stores → PairCells stores
