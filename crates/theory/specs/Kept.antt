-- A set of links as words of 64 bits each. Assumes nothing.
use Rattle.std.specs.Prelude.{ℕ, ◌/◌, ◌%◌, ◌^◌, Bool, List, ◌==◌, slice_index}

-- bit i of a word
abbrev pub bit : ℕ → ℕ → ℕ
bit word i = word / 2 ^ i % 2

-- whether the link n is in the set: bit n % 64 of word n / 64
abbrev pub kept_at : List ℕ → ℕ → Bool
kept_at words n = bit (slice_index words (n / 64)) (n % 64) == 1
