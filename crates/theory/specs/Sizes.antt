-- The sizes that a problem stays within. Assumes nothing.
use Rattle.std.specs.Prelude.{ℕ, ◌+◌, ◌<◌, ◌≤◌, List, [], ◌∷◌, map, length, slice_index, slice_index_or}
use Rattle.theory.specs.Problem.{Problem, Function, Sound, variables, functions, size, function, product}

-- how many combinations of values the variables of a scope have, where `domains` has the size of each variable
abbrev pub combinations : List ℕ → List ℕ → ℕ
combinations domains scope = product (map (λ (v : ℕ). slice_index domains v) scope)

-- each of some scopes has the property P
abbrev pub EachScope : (List ℕ → Type 0) → List (List ℕ) → Type 0
EachScope P scopes = (f : ℕ) → f < length scopes → P (slice_index_or scopes f [])

-- the variables of a scope are among the first n
abbrev pub Known : ℕ → List ℕ → Type 0
Known n scope = (p : ℕ) → p < length scope → slice_index scope p < n

-- how many words the tables of some functions have together
unfoldable pub all_words : List Function → ℕ
all_words [] = 0
all_words (f ∷ fs) = length f.words + all_words fs

-- how many words a table over a scope has: one for each combination
abbrev pub table_size : Problem → List ℕ → ℕ
table_size P scope = product (map (size P) scope)

-- A problem within the sizes.
pub record Fits (P : Problem) : Type 0 where
  -- domains of at least 1, scopes of 1 to 4 different known variables, tables of one word for each combination
  pub sound : Sound P
  pub few_variables : variables P ≤ 64
  pub small_domains : (v : ℕ) → v < variables P → size P v ≤ 16
  pub few_functions : functions P ≤ 64
  pub small_tables : (f : ℕ) → f < functions P → length (function P f).words ≤ 1024
  pub few_words : all_words P.tables ≤ 4096
