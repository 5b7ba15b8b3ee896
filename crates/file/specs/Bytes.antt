-- Numbers in bytes, the low byte first, and parts of a file. Assumes nothing.
use Rattle.std.specs.Prelude.{ℕ, ◌+◌, ◌*◌, List, take, drop, slice_index}

-- the 16-bit number at a place
abbrev pub half : List ℕ → ℕ → ℕ
half bs k = slice_index bs k + slice_index bs (k + 1) * 256

-- the 32-bit word at a place
abbrev pub word : List ℕ → ℕ → ℕ
word bs k = slice_index bs k + slice_index bs (k + 1) * 256 + slice_index bs (k + 2) * 65536 + slice_index bs (k + 3) * 16777216

-- n bytes from a place on
abbrev pub part : List ℕ → ℕ → ℕ → List ℕ
part bs k n = take n (drop k bs)
