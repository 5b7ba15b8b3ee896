-- When a problem has no sheet, and what its sheet shows. Assumes nothing.
use Rattle.std.specs.Prelude.{◌≡◌, ℕ, List, [], ◌∷◌}
use Rattle.scale.specs.Rules.{Rules}
use Rattle.theory.specs.Graphs.{Cycle, every}
use Rattle.theory.specs.Joins.{Highest}
use Rattle.theory.specs.KeptBy.{Rule, straight, bounded}
use Rattle.theory.specs.Links.{graph}
use Rattle.theory.specs.Problem.{Problem, Valid, variables, score}
use Rattle.rules.specs.Figures.{Figures, Stores}
use Rattle.rules.specs.Guarantees.{Guaranteed, GuaranteedLightest}
use Rattle.rules.specs.Report.{Solved}
use Rattle.sheets.specs.declared.printing.Sheet.{Sheet}

-- There are no variables to plan for, or a straight solve meets links that form a cycle. The stores have their lengths, so no test looks at them.
abbrev pub solve_tests : Rule → Problem → List (ℕ × Type 0)
solve_tests straight P =
    (12, variables P ≡ 0) ∷
    (13, Cycle (graph P) every) ∷ []
solve_tests bounded P =
    (12, variables P ≡ 0) ∷ []

module _ {E : Type 0} (R : Rules E) (P : Problem) where
  -- What a report by a rule guarantees. Without a removed link its tree value is the highest score; with the lightest removed, no lighter ones clear every cycle.
  abbrev pub GuaranteedBy : Rule → Figures E → Type 0
  GuaranteedBy straight figures = Guaranteed R P straight figures × Highest R (Valid P) (score R P) figures.tree
  GuaranteedBy bounded figures = GuaranteedLightest R P bounded figures

  -- A sheet shows figures: the scale's code, the number of variables, and each figure, a value as its first and second number.
  pub record Tells (figures : Figures E) (s : Sheet) : Type 0 where
    pub scale : s.scale ≡ R.code
    pub variable_count : s.variables ≡ variables P
    pub plan : s.plan ≡ figures.plan
    pub kept : s.kept ≡ figures.kept_count
    pub tree : s.tree ≡ R.shown figures.tree
    pub score : s.score ≡ R.shown figures.score
    pub removed : s.removed ≡ R.shown figures.removed
    pub ceiling : s.ceiling ≡ R.shown figures.ceiling
    pub share : s.share ≡ figures.share

  -- The sheet shows the report of the problem by the rule, with all that such a report guarantees.
  pub record SheetOf (rule : Rule) (s : Sheet) : Type 0 where
    pub figures : Figures E
    pub stores : Stores E
    pub solved : Solved R P rule figures stores
    pub guaranteed : GuaranteedBy rule figures
    pub tells : Tells figures s

-- What a solve leaves: figures and stores that are the report of the problem P, which it still is.
pub record SolvedAs {E : Type 0} (R : Rules E) (rule : Rule) (P Q : Problem) (figures : Figures E) (stores : Stores E) : Type 0 where
  pub solved : Solved R P rule figures stores
  pub guaranteed : GuaranteedBy R P rule figures
  pub same : Q ≡ P
