-- What the inner functions hand on to each other; no public function speaks of it. Assumes nothing.
use Rattle.std.specs.Prelude.{◌≡◌, ℕ, ◌*◌, ◌/◌, ◌<◌, ◌≤◌, ◌⊎◌, List, length, slice_index}
use Rattle.scale.specs.Rules.{Rules}
use Rattle.theory.specs.Problem.{Problem, variables, functions, words_in_order}
use Rattle.layout.specs.declared.layout.Layout.{Layout}
use Rattle.tables.specs.declared.tables.Tables.{Tables}
use Rattle.tables.specs.View.{problem_of}
use Rattle.file.specs.declared.places.Header.{Header}
use Rattle.file.specs.Bytes.{half, word}
use Rattle.file.specs.Places.{file_length}
use Rattle.file.specs.Reading.{ReadAs}

-- the counts that the header of a file of bytes tells
pub record Counted (bs : List ℕ) (h : Header) : Type 0 where
  pub bytes : (k : ℕ) → slice_index bs k < 256
  pub header : 16 ≤ length bs
  pub variables : h.variables ≡ half bs 2
  pub functions : h.functions ≡ half bs 4
  pub entries : h.entries ≡ half bs 6

-- and the file is as long as they say
pub record Told (bs : List ℕ) (h : Header) : Type 0 where
  pub counted : Counted bs h
  pub long : length bs ≡ file_length h.variables h.functions h.entries

-- the counts of a problem
pub record CountsOf (P : Problem) (h : Header) : Type 0 where
  pub variable_count : h.variables ≡ variables P
  pub function_count : h.functions ≡ functions P
  pub entry_count : h.entries ≡ length (words_in_order P)

-- tables hold a layout and a section of entries
pub record Holds (t : Tables) (l : Layout) (entries : List ℕ) : Type 0 where
  pub layout : t.layout ≡ l
  pub words : (k : ℕ) → k < length entries / 4 → slice_index t.words k ≡ word entries (4 * k)

-- The layout and the entries that are found in a file that meets no test, and so what tables that hold them are.
pub record FoundIn {E : Type 0} (R : Rules E) (bs : List ℕ) (l : Layout) (entries : List ℕ) : Type 0 where
  pub few : length entries ≤ 16384
  pub read_as : (t : Tables) → Holds t l entries → ReadAs R bs (problem_of t)

-- Bytes were written from one place up to another, and nothing else was changed.
pub record Written (before after : List ℕ) (from to : ℕ) : Type 0 where
  pub outside : (k : ℕ) → (k < from) ⊎ (to ≤ k) → slice_index after k ≡ slice_index before k
  pub bytes : (k : ℕ) → from ≤ k → k < to → slice_index after k < 256
