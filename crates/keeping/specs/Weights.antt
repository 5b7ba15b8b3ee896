-- The weights of links, one for each number. Assumes nothing.
use Rattle.std.specs.Prelude.{ℕ, List, map, slice_index_or}
use Rattle.scale.specs.Rules.{Rules}

-- the exact weight of a link; neutral where none is given
abbrev pub weight_of : {V E : Type 0} → Rules E → (V → E) → List V → ℕ → E
weight_of R means weights n = slice_index_or (map means weights) n R.neutral
