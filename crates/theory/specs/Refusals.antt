-- When something is declined, and by which number. Assumes nothing.
use Rattle.std.specs.Prelude.{◌≡◌, ℕ, ◌+◌, ◌<◌, ◌≤◌, false, ◌≢◌, ◌⊎◌, List, [], ◌∷◌, ◌++◌, length, Ok, Err, Result, slice_index}
use Rattle.scale.specs.Rules.{Rules}
use Rattle.theory.specs.Problem.{Problem, variables, functions, size, arity}
use Rattle.theory.specs.Sizes.{combinations}

-- Tests stand in the order in which they are made, each as what it is answered by and when it fits.
module _ {A : Type 0} where
  -- a is what the first test that fits is answered by
  abbrev pub First : List (A × Type 0) → A → Type 0
  First [] a = ⊥
  First (t ∷ ts) a = (t.1 × (a ≡ t.0)) ⊎ ((t.1 → ⊥) × First ts a)

  -- no test fits
  abbrev pub NoneFits : List (A × Type 0) → Type 0
  NoneFits [] = Unit {0}
  NoneFits (t ∷ ts) = (t.1 → ⊥) × NoneFits ts

  -- What is accepted meets no test and gives a result with the property P; what is declined is answered by the first test that fits.
  abbrev pub Answered : {T F : Type 0} → (F → A) → List (A × Type 0) → (T → Type 0) → Result T F → Type 0
  Answered number tests P (Ok x) = NoneFits tests × P x
  Answered number tests P (Err f) = First tests (number f)

-- What is declined is left as it was.
abbrev pub Untouched : {T F X : Type 0} → Result T F → X → X → Type 0
Untouched (Ok x) before after = Unit {0}
Untouched (Err f) before after = after ≡ before

-- A new variable of a size, where there are `count` already.
abbrev pub variable_tests : ℕ → ℕ → List (ℕ × Type 0)
variable_tests count size =
    (2, (size < 1) ⊎ (16 < size)) ∷
    (3, 64 ≤ count) ∷ []

-- A scope, where there are n variables.
abbrev pub scope_tests : ℕ → List ℕ → List (ℕ × Type 0)
scope_tests n scope =
    (4, (length scope < 1) ⊎ (4 < length scope)) ∷
    (5, (p : ℕ) × (p < length scope) × (n ≤ slice_index scope p)) ∷
    (6, (p q : ℕ) × (p < q) × (q < length scope) × (slice_index scope p ≡ slice_index scope q)) ∷ []

-- The room for a table over a scope, where there are `count` functions already with `used` words.
abbrev pub room_tests : List ℕ → ℕ → ℕ → List ℕ → List (ℕ × Type 0)
room_tests domains count used scope =
    (7, 64 ≤ count) ∷
    (8, (1024 < combinations domains scope) ⊎ (4096 < used + combinations domains scope)) ∷ []

-- A new function of a scope, over these domains.
abbrev pub function_tests : List ℕ → ℕ → ℕ → List ℕ → List (ℕ × Type 0)
function_tests domains count used scope = scope_tests (length domains) scope ++ room_tests domains count used scope

-- A word of a table.
abbrev pub word_tests : {E : Type 0} → Rules E → ℕ → List (ℕ × Type 0)
word_tests R word = (11, R.entry word ≡ false) ∷ []

-- A place of a function.
abbrev pub place_tests : Problem → ℕ → ℕ → List (ℕ × Type 0)
place_tests P f p =
    (9, functions P ≤ f) ∷
    (17, arity P f ≤ p) ∷ []

-- A list of values, one for each variable.
abbrev pub list_tests : Problem → List ℕ → List (ℕ × Type 0)
list_tests P values =
    (15, length values ≢ variables P) ∷
    (16, (v : ℕ) × (v < variables P) × (size P v ≤ slice_index values v)) ∷ []
