-- A row of a table: a stretch of it along which only the value at the last place changes. Assumes nothing.
use Rattle.std.specs.Prelude.{◌≡◌, ℕ, ◌+◌, ◌-◌, ◌<◌, ◌≤◌, ◌∷◌, ◌++◌, [], slice_index}
use Rattle.theory.specs.Problem.{product}
use Rattle.messages.specs.declared.places.Places.{Places}
use Rattle.messages.specs.Combinations.{combination}
use Rattle.messages.specs.Places.{places_in, count_in, place_in, sizes_in, cut_index}

-- o are the places of s but for the last.
abbrev pub OuterOf : Places → Places → Type 0
OuterOf s o = places_in s ≡ places_in o ++ (place_in s (count_in o) ∷ [])

-- the value of the parent at the index j
abbrev pub parent_at : Places → ℕ → ℕ
parent_at s j = slice_index (combination (sizes_in s) j) s.parent

-- The first `many` entries of the row that begins at the index `at`, each with 0 at the removed places, its number at the last place, and else the values of the first.
pub record RowAt (s : Places) (at many : ℕ) : Type 0 where
  pub inside : at + many ≤ product (sizes_in s)
  pub few : many ≤ (place_in s (count_in s - 1)).size
  pub own : (x : ℕ) → x < many → cut_index s (at + x) ≡ at + x
  pub last : (x : ℕ) → x < many → slice_index (combination (sizes_in s) (at + x)) (count_in s - 1) ≡ x
  pub others : (x p : ℕ) → x < many → p + 1 < count_in s → slice_index (combination (sizes_in s) (at + x)) p ≡ slice_index (combination (sizes_in s) at) p
