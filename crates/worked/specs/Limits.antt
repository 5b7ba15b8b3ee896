-- Limits by examples, in points: where calls begin to be declined, and problems that pass one of the sizes. Assumes nothing.
use Rattle.std.specs.Prelude.{ℕ, [], ◌∷◌, List, replicate, ℤ}
use Rattle.scale.specs.Points.{points}
use Rattle.theory.specs.Problem.{Function, Problem, no_problem}
use Rattle.theory.specs.KeptBy.{Rule}
use Rattle.theory.specs.Refusals.{First, NoneFits}
use Rattle.theory.specs.Sizes.{Fits}
use Rattle.calls.specs.State.{Call}
use Rattle.calls.specs.Step.{unreported}
use Rattle.calls.specs.Tests.{tests}
use Rattle.worked.specs.Table.{pair}

-- n is what the call is declined by on the problem P
abbrev pub DeclinedOn : Problem → Call → ℕ → Type 0
DeclinedOn P call n = First (tests points (unreported {E = ℤ} P) call) n

-- and this is that it is taken there
abbrev pub TakenOn : Problem → Call → Type 0
TakenOn P call = NoneFits (tests points (unreported {E = ℤ} P) call)

-- n variables of one value each, without a function
abbrev pub variables_alone : ℕ → Problem
variables_alone n = record { domains = replicate n 1; tables = [] }

-- one variable of one value, and n functions of it, of one word each
abbrev pub functions_alike : ℕ → Problem
functions_alike n = record { domains = 1 ∷ []; tables = replicate n (record { scope = 0 ∷ []; words = 0 ∷ [] }) }

-- 16 × 16 × 4 are 1,024 words
abbrev pub full_table : Function
full_table = record { scope = 0 ∷ 1 ∷ 2 ∷ []; words = replicate 1024 0 }

-- n functions of 1,024 words each; the last variable has one value
abbrev pub full_tables : ℕ → Problem
full_tables n = record { domains = 16 ∷ 16 ∷ 4 ∷ 1 ∷ []; tables = replicate n full_table }

-- Sizes of which the product is 3 × 7 × 7 × 7 = 1,029. No table of four variables or fewer has a number of words between 1,024 and that.
abbrev pub wide_domains : List ℕ
wide_domains = 3 ∷ 7 ∷ 7 ∷ 7 ∷ []

-- What just passes each limit is declined by its number, and what just keeps it is taken.
pub record Limits : Type 0 where
  -- a variable has 1 to 16 values
  pub no_value : DeclinedOn no_problem (Call.add_variable 0) 2
  pub one_value : TakenOn no_problem (Call.add_variable 1)
  pub most_values : TakenOn no_problem (Call.add_variable 16)
  pub many_values : DeclinedOn no_problem (Call.add_variable 17) 2
  -- there are at most 64 variables
  pub last_variable : TakenOn (variables_alone 63) (Call.add_variable 1)
  pub many_variables : DeclinedOn (variables_alone 64) (Call.add_variable 1) 3
  -- a function has 1 to 4 places
  pub no_place : DeclinedOn (variables_alone 5) (Call.add_function []) 4
  pub one_place : TakenOn (variables_alone 5) (Call.add_function (4 ∷ []))
  pub most_places : TakenOn (variables_alone 5) (Call.add_function (0 ∷ 1 ∷ 2 ∷ 3 ∷ []))
  pub many_places : DeclinedOn (variables_alone 5) (Call.add_function (0 ∷ 1 ∷ 2 ∷ 3 ∷ 4 ∷ [])) 4
  -- of variables that are there, each once
  pub unknown : DeclinedOn (variables_alone 5) (Call.add_function (5 ∷ [])) 5
  pub repeated : DeclinedOn (variables_alone 5) (Call.add_function (3 ∷ 4 ∷ 3 ∷ [])) 6
  -- there are at most 64 functions
  pub last_function : TakenOn (functions_alike 63) (Call.add_function (0 ∷ []))
  pub many_functions : DeclinedOn (functions_alike 64) (Call.add_function (0 ∷ [])) 7
  -- a table has at most 1,024 words, and all tables together have at most 4,096: the fourth of 1,024 is taken, and then no word more
  pub last_table : TakenOn (full_tables 3) (Call.add_function (0 ∷ 1 ∷ 2 ∷ []))
  pub many_words : DeclinedOn (full_tables 4) (Call.add_function (3 ∷ [])) 8
  pub large_table : DeclinedOn (record { domains = wide_domains; tables = [] }) (Call.add_function (0 ∷ 1 ∷ 2 ∷ 3 ∷ [])) 8
  -- an entry is from -1,000,000 to 1,000,000; below 0 its word is 2^32 more
  pub highest_entry : TakenOn pair (Call.set_entry 1 3 1000000)
  pub high_entry : DeclinedOn pair (Call.set_entry 1 3 1000001) 11
  pub lowest_entry : TakenOn pair (Call.set_entry 1 3 4293967296)
  pub low_entry : DeclinedOn pair (Call.set_entry 1 3 4293967295) 11
  -- the last function has a last place, each variable has a last value, and a list has no value more than there are variables
  pub last_place : TakenOn pair (Call.weight 1 1)
  pub past_places : DeclinedOn pair (Call.weight 1 2) 17
  pub last_values : TakenOn pair (Call.score (1 ∷ 1 ∷ []))
  pub past_values : DeclinedOn pair (Call.score (1 ∷ 2 ∷ [])) 16
  pub long_list : DeclinedOn pair (Call.score (1 ∷ 1 ∷ 0 ∷ [])) 15
  -- the stores of a solve have 2,304 and 1,024 cells, by either rule
  pub stores : (rule : Rule) → TakenOn (variables_alone 1) (Call.solve rule 2304 1024)
  pub fewer_values : (rule : Rule) → DeclinedOn (variables_alone 1) (Call.solve rule 2303 1024) 1
  pub more_values : (rule : Rule) → DeclinedOn (variables_alone 1) (Call.solve rule 2305 1024) 1
  pub fewer_choices : (rule : Rule) → DeclinedOn (variables_alone 1) (Call.solve rule 2304 1023) 1
  pub more_choices : (rule : Rule) → DeclinedOn (variables_alone 1) (Call.solve rule 2304 1025) 1

-- Problems that pass one of the sizes, and no other.
pub record NotWithin : Type 0 where
  -- a variable of 17 values
  pub domain : Fits (record { domains = 17 ∷ []; tables = [] }) → ⊥
  -- 65 variables, and 65 functions
  pub variables : Fits (variables_alone 65) → ⊥
  pub functions : Fits (functions_alike 65) → ⊥
  -- a table of 1,029 words
  pub table : Fits (record { domains = wide_domains; tables = record { scope = 0 ∷ 1 ∷ 2 ∷ 3 ∷ []; words = replicate 1029 0 } ∷ [] }) → ⊥
  -- 4,096 words and one more
  pub words : Fits (record { domains = 16 ∷ 16 ∷ 4 ∷ 1 ∷ []; tables = record { scope = 3 ∷ []; words = 0 ∷ [] } ∷ replicate 4 full_table }) → ⊥
