-- A problem: variables with finite domains, and functions of some of them, each given by its table. Its plans and their scores.
-- Assumes nothing.
use Rattle.std.specs.Prelude.{◌≡◌, ℕ, ◌+◌, ◌*◌, ◌<◌, ◌≤◌, cond, List, [], ◌∷◌, map, length, ◌==◌, slice_index, slice_index_or}
use Rattle.std.specs.List.{flat_map}
use Rattle.scale.specs.Rules.{Rules}
use Rattle.theory.specs.Joins.{joins}

-- A function has a scope of variables and a table of words, one for each combination of their values.
pub record Function : Type 0 where
  pub scope : List ℕ
  pub words : List ℕ

-- the size of each variable's domain, and the functions, in the order of their numbers
pub record Problem : Type 0 where
  pub domains : List ℕ
  pub tables : List Function

-- a problem without variables and functions
abbrev pub no_problem : Problem
no_problem = record { domains = []; tables = [] }

-- A plan gives each variable a value.
abbrev pub Plan : Type 0
Plan = ℕ → ℕ

abbrev pub product : List ℕ → ℕ
product [] = 1
product (s ∷ sizes) = s * product sizes

-- the position of a combination of values in a table, where the last place varies fastest
abbrev pub index : List ℕ → List ℕ → ℕ
index [] xs = 0
index (s ∷ sizes) [] = 0
index (s ∷ sizes) (x ∷ xs) = x * product sizes + index sizes xs

-- the plan y, but with the value x for the variable v
abbrev pub put : Plan → ℕ → ℕ → Plan
put y v x u = cond (u == v) x (y u)

module _ (P : Problem) where
  -- how many variables and how many functions there are
  abbrev pub variables : ℕ
  variables = length P.domains

  abbrev pub functions : ℕ
  functions = length P.tables

  -- how many values the variable v has
  unfoldable pub size : ℕ → ℕ
  size v = slice_index P.domains v

  abbrev pub function : ℕ → Function
  function f = slice_index_or P.tables f (record { scope = []; words = [] })

  unfoldable pub scope_of : ℕ → List ℕ
  scope_of f = (function f).scope

  -- how many places the function f has, and the variable at its place p
  abbrev pub arity : ℕ → ℕ
  arity f = length (scope_of f)

  unfoldable pub at : ℕ → ℕ → ℕ
  at f p = slice_index (scope_of f) p

  -- where the entry at a plan stands in the table of the function f
  unfoldable pub position : ℕ → Plan → ℕ
  position f y = index (map size (scope_of f)) (map y (scope_of f))

  -- the words of all tables, one table after the other
  abbrev pub words_in_order : List ℕ
  words_in_order = flat_map (λ (f : Function). f.words) P.tables

  -- each variable has a value of its domain
  abbrev pub Valid : Plan → Type 0
  Valid y = (v : ℕ) → v < variables → y v < size v

  -- No domain is empty, each function has one to four places with different variables, and its table has a word for each combination.
  pub record Sound : Type 0 where
    pub nonempty : (v : ℕ) → v < variables → 1 ≤ size v
    pub some_place : (f : ℕ) → f < functions → 1 ≤ arity f
    pub four_places : (f : ℕ) → f < functions → arity f ≤ 4
    pub known : (f p : ℕ) → f < functions → p < arity f → at f p < variables
    pub distinct : (f p p' : ℕ) → f < functions → p < arity f → p' < arity f → at f p ≡ at f p' → p ≡ p'
    pub full : (f : ℕ) → f < functions → length (function f).words ≡ product (map size (scope_of f))

module _ {E : Type 0} (R : Rules E) (P : Problem) where
  -- what the word of the function f at a plan reads as
  unfoldable pub entry : ℕ → Plan → E
  entry f y = R.reads (slice_index (function P f).words (position P f y))

  -- what each function gives at a plan, joined in number order
  abbrev pub score_by : (ℕ → Plan → E) → Plan → E
  score_by table y = joins R (functions P) (λ f. table f y)

  abbrev pub score : Plan → E
  score = score_by entry

-- Two problems are the same if domain sizes, scopes and read entries agree in order.
pub record Same {E : Type 0} (R : Rules E) (P Q : Problem) : Type 0 where
  pub domains : P.domains ≡ Q.domains
  pub scopes : map (λ (f : Function). f.scope) P.tables ≡ map (λ (f : Function). f.scope) Q.tables
  pub entries : map R.reads (words_in_order P) ≡ map R.reads (words_in_order Q)
