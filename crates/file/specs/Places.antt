-- Where the parts of a file with so many variables, functions and entries begin. Assumes nothing.
use Rattle.std.specs.Prelude.{ℕ, ◌+◌, ◌*◌}

-- The header has 16 bytes, then a byte for each domain.
abbrev pub domains_place : ℕ
domains_place = 16

-- then five bytes for each scope
abbrev pub scopes_place : ℕ → ℕ
scopes_place variables = 16 + variables

-- then four bytes for each entry
abbrev pub entries_place : ℕ → ℕ → ℕ
entries_place variables functions = 16 + variables + 5 * functions

abbrev pub file_length : ℕ → ℕ → ℕ → ℕ
file_length variables functions entries = 16 + variables + 5 * functions + 4 * entries
