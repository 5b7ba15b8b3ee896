-- The tests of a new function, told by the scopes of a problem. Assumes nothing.
use Rattle.std.proofs.Common.{◌≡◌, ℕ, List, map, length, sum_by, sym, ap, ◌∙◌, subst₂}
use Rattle.std.proofs.lemmas.List.{length-map}
use Rattle.theory.specs.Problem.{Problem, Function, Sound, functions}
use Rattle.theory.specs.Refusals.{First, NoneFits, function_tests}
use Rattle.theory.specs.Sizes.{all_words, combinations}
use Rattle.theory.proofs.WordCounts.{words_by_scope}

-- Where the problem has these scopes, its functions are as many, and its words are their combinations.
module _ (P : Problem) (sound : Sound P) (scopes : List (List ℕ)) (told : map (λ (f : Function). f.scope) P.tables ≡ scopes) (scope : List ℕ) where
  abbrev by_scopes : List (ℕ × Type 0)
  by_scopes = function_tests P.domains (length scopes) (sum_by (combinations P.domains) scopes) scope

  abbrev by_tables : List (ℕ × Type 0)
  by_tables = function_tests P.domains (functions P) (all_words P.tables) scope

  as_many : length scopes ≡ functions P
  as_many = ap length (sym told) ∙ length-map P.tables (λ (f : Function). f.scope)

  as_long : sum_by (combinations P.domains) scopes ≡ all_words P.tables
  as_long = ap (sum_by (combinations P.domains)) (sym told) ∙ words_by_scope P sound

  pub first_by_scopes : (n : ℕ) → First by_scopes n → First by_tables n
  first_by_scopes n = subst₂ (λ (count used : ℕ). First (function_tests P.domains count used scope) n) as_many as_long

  pub none_by_scopes : NoneFits by_scopes → NoneFits by_tables
  none_by_scopes = subst₂ (λ (count used : ℕ). NoneFits (function_tests P.domains count used scope)) as_many as_long
