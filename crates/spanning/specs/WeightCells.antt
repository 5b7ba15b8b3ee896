-- Where a board holds the weights of links: in its rows 128 to 143, one cell for each link number. Assumes nothing.
use Rattle.std.specs.Prelude.{◌≡◌, List, length, take, drop}

-- the cells of the weights
abbrev pub weight_cells : {V : Type 0} → List V → List V
weight_cells cells = take 256 (drop 2048 cells)

-- From `before` to `after` all other cells are as they were.
pub record OthersSame {V : Type 0} (before after : List V) : Type 0 where
  pub front : take 2048 after ≡ take 2048 before
  pub back : drop 2304 after ≡ drop 2304 before
  pub long : length after ≡ length before
