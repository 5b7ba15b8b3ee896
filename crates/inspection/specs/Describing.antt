-- What is told of a file. Assumes nothing.
use Rattle.std.specs.Prelude.{◌≡◌, ℕ, ◌<◌, true, ◌≢◌, List, [], ◌∷◌, map, length, sum_by}
use Rattle.theory.specs.Problem.{Problem, Function, variables, functions, words_in_order}
use Rattle.file.specs.Bytes.{half}
use Rattle.file.specs.Spelling.{Spells}
use Rattle.inspection.specs.declared.summary.Summary.{Summary}

-- how many links a problem has: one for each place of each function
abbrev pub links : Problem → ℕ
links P = sum_by length (map (λ (f : Function). f.scope) P.tables)

-- The file spells a problem, the summary has its numbers, and writing it back gives the same bytes.
pub record Describes (code : ℕ) (bs : List ℕ) (s : Summary) : Type 0 where
  pub problem : Problem
  pub spelled : Spells code bs problem
  pub scale : s.scale ≡ code
  pub variable_count : s.variables ≡ variables problem
  pub function_count : s.functions ≡ functions problem
  pub entry_count : s.entries ≡ length (words_in_order problem)
  pub link_count : s.links ≡ links problem
  pub byte_count : s.bytes ≡ length bs
  pub same : s.same ≡ true

-- a code that none of the four scales has
abbrev pub NoScale : ℕ → Type 0
NoScale code = (code ≢ 1) × (code ≢ 2) × (code ≢ 3) × (code ≢ 4)

-- A file with such a code is too short, or of no known scale.
abbrev pub other_tests : List ℕ → List ((ℕ × ℕ) × Type 0)
other_tests bs =
    ((18, 0), length bs < 16) ∷
    ((19, 0), NoScale (half bs 0)) ∷ []
