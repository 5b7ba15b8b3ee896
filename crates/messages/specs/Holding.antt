-- Cells of a board, by the exact values that they stand for. Assumes nothing.
use Rattle.std.specs.Prelude.{ℕ, List, slice_index_or}
use Rattle.joining.specs.Standing.{StandsFor}

module _ {V E : Type 0} (means : V → E) (within : ℕ → V → Type 0) where
  -- The cell i stands for e, joined of at most n entries. (No cell past the end does, since the default is any value.)
  abbrev pub Holds : List V → ℕ → E → ℕ → Type 0
  Holds cells i e n = (d : V) → StandsFor means within e n (slice_index_or cells i d)
