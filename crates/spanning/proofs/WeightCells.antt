-- The cells of the weights on a board. Assumes nothing.
use Rattle.std.proofs.Common.{◌≡◌, ℕ, ◌+◌, ◌<◌, ◌≤◌, List, length, get_or, drop, ◌∙◌, arith}
use Rattle.std.proofs.lemmas.List.{get_or-drop, get_or-take, length-drop, length-take-le}
use Rattle.spanning.specs.WeightCells.{weight_cells}

module _ {V : Type 0} (cells : List V) where
  pub weight_count : 2304 ≤ length cells → length (weight_cells cells) ≡ 256
  weight_count room = let rest = length-drop 2048 cells in length-take-le 256 (drop 2048 cells) (omega arith)

  pub weight_cell : (n : ℕ) (d : V) → n < 256 → get_or (weight_cells cells) n d ≡ get_or cells (2048 + n) d
  weight_cell n d h = get_or-take 256 (drop 2048 cells) n d h ∙ get_or-drop 2048 cells n d
