-- The places of a function, as its messages see them. Assumes nothing.
use Rattle.std.specs.Prelude.{◌≡◌, ℕ, ◌<◌, Bool, List, map, length, slice_index, slice_index_or}
use Rattle.scale.specs.Rules.{Rules}
use Rattle.theory.specs.Joins.{Lowest}
use Rattle.theory.specs.Problem.{Problem, size, arity, at, index}
use Rattle.theory.specs.Links.{link}
use Rattle.theory.specs.Forest.{Hanging, hangs}
use Rattle.short_list.specs.View.{items_of}
use Rattle.messages.specs.declared.place.Place.{Place}
use Rattle.messages.specs.declared.places.Places.{Places}
use Rattle.messages.specs.Place.{no_place}
use Rattle.messages.specs.Combinations.{combination, cleared}

-- the places, by number, how many there are, and each one
abbrev pub places_in : Places → List Place
places_in s = items_of s.list

abbrev pub count_in : Places → ℕ
count_in s = length (places_in s)

abbrev pub place_in : Places → ℕ → Place
place_in s p = slice_index_or (places_in s) p no_place

-- how many values the variable at each place has
abbrev pub sizes_in : Places → List ℕ
sizes_in s = map (λ (p : Place). p.size) (places_in s)

-- the index with 0 at the removed places, and the values of the index i at the kept places
abbrev pub cut_index : Places → ℕ → ℕ
cut_index s i = index (sizes_in s) (cleared (λ p. (place_in s p).kept) (combination (sizes_in s) i))

-- The words are the cut table by the first n indices: at each index with 0 at the removed places, the lowest entry of those indices with the same values at the kept places.
abbrev pub CutTo : {E : Type 0} → Rules E → Places → List ℕ → ℕ → List ℕ → Type 0
CutTo R s table n words =
    (k : ℕ) → k < n → cut_index s k ≡ k → (d : ℕ) →
    Lowest R (λ j. (j < n) × (cut_index s j ≡ k)) (λ j. R.reads (slice_index table j)) (R.reads (slice_index_or words k d))

-- the same by all indices
abbrev pub CutWords : {E : Type 0} → Rules E → Places → List ℕ → List ℕ → Type 0
CutWords R s table words = CutTo R s table (length table) words

-- the place p of the function f, with the kept links, hung as H says
abbrev pub place_at : Problem → (ℕ → Bool) → Hanging → ℕ → ℕ → Place
place_at P kept H f p = record { variable = at P f p; size = size P (at P f p); kept = kept (link f p); below = hangs (H.var_parent (at P f p)) f }

-- These are the places of the function f.
pub record PlacesOf (P : Problem) (kept : ℕ → Bool) (H : Hanging) (f : ℕ) (s : Places) : Type 0 where
  pub count : count_in s ≡ arity P f
  pub parent : s.parent ≡ H.fun_parent f
  pub each : (p : ℕ) → p < arity P f → place_in s p ≡ place_at P kept H f p
