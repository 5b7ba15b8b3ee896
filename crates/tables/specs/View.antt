-- Tables as the problem that they stand for. Assumes nothing.
use Rattle.std.specs.Prelude.{ℕ, List, [], ◌∷◌, take, drop}
use Rattle.theory.specs.Problem.{Problem, Function, function}
use Rattle.theory.specs.Sizes.{combinations}
use Rattle.layout.specs.View.{domains_of, scopes_of}
use Rattle.tables.specs.declared.tables.Tables.{Tables}

-- The functions of some scopes, where the words of their tables lie one table after the other.
abbrev pub functions_from : List ℕ → List (List ℕ) → List ℕ → List Function
functions_from domains [] words = []
functions_from domains (scope ∷ scopes) words =
    record { scope = scope; words = take (combinations domains scope) words } ∷ functions_from domains scopes (drop (combinations domains scope) words)

abbrev pub problem_of : Tables → Problem
problem_of t = record { domains = domains_of t.layout; tables = functions_from (domains_of t.layout) (scopes_of t.layout) t.words }

-- the words of the table of a function; none where there is no such function
abbrev pub table_of : Tables → ℕ → List ℕ
table_of t f = (function (problem_of t) f).words
