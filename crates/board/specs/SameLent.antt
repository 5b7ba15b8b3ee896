-- What a write to a board leaves as it is. Assumes nothing.
use Rattle.std.specs.Prelude.{◌≡◌, length}
use Rattle.board.specs.declared.Board.{Board}

-- The board lies over the same lent cells, as many, in as many rows.
pub record SameLent {T : Type 0} (before after : Board T) : Type 0 where
  pub rows : after.rows ≡ before.rows
  pub long : length after.cells.now ≡ length before.cells.now
  pub lent : after.cells.ghost_name ≡ before.cells.ghost_name
