-- When a file has no sheet, and what the sheet of a file shows. Assumes nothing.
use Rattle.std.specs.Prelude.{◌≡◌, ℕ, List, [], ◌∷◌, ◌++◌}
use Rattle.scale.specs.Rules.{Rules}
use Rattle.theory.specs.Graphs.{Cycle, every}
use Rattle.theory.specs.KeptBy.{Rule, straight, bounded}
use Rattle.theory.specs.Links.{graph}
use Rattle.theory.specs.Problem.{Problem}
use Rattle.file.specs.Bytes.{half}
use Rattle.file.specs.Spelling.{Spells, AllEntries}
use Rattle.file.specs.Tests.{file_tests}
use Rattle.sheets.specs.declared.printing.Sheet.{Sheet}
use Rattle.sheets.specs.Sheets.{SheetOf}

-- The bytes spell a problem whose links form a cycle.
pub record SpellsCycle (code : ℕ) (bs : List ℕ) : Type 0 where
  pub problem : Problem
  pub spelled : Spells code bs problem
  pub cycle : Cycle (graph problem) every

-- The solve of the problem that the bytes spell: it has no variables, or, where no link may be removed, its links form a cycle. Both stand at place 0.
abbrev pub plan_tests : ℕ → Rule → List ℕ → List ((ℕ × ℕ) × Type 0)
plan_tests code straight bs =
    ((12, 0), half bs 2 ≡ 0) ∷
    ((13, 0), SpellsCycle code bs) ∷ []
plan_tests code bounded bs =
    ((12, 0), half bs 2 ≡ 0) ∷ []

-- All tests: those of the file, and then those of the solve.
abbrev pub sheet_tests : {E : Type 0} → Rules E → Rule → List ℕ → List ((ℕ × ℕ) × Type 0)
sheet_tests R rule bs = file_tests R bs ++ plan_tests R.code rule bs

-- The bytes spell a problem, all its words are entries of the scale, and the sheet is that problem's.
pub record Shows {E : Type 0} (R : Rules E) (rule : Rule) (bs : List ℕ) (s : Sheet) : Type 0 where
  pub problem : Problem
  pub spelled : Spells R.code bs problem
  pub entries : AllEntries R problem
  pub sheet : SheetOf R problem rule s
