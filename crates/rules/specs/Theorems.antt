-- What is proved of the report of a solve, over every scale of values. Assumes nothing.
use Rattle.std.specs.Prelude.{◌≡◌}
use Rattle.scale.specs.Rules.{Rules}
use Rattle.scale.specs.Laws.{Plain, Gaps}
use Rattle.theory.specs.Joins.{Highest}
use Rattle.theory.specs.Problem.{Problem, Sound, Valid, score}
use Rattle.theory.specs.Sizes.{Fits}
use Rattle.theory.specs.Graphs.{Cycle, every}
use Rattle.theory.specs.KeptBy.{Rule, straight, bounded}
use Rattle.theory.specs.Links.{graph}
use Rattle.rules.specs.Figures.{Figures, Stores}
use Rattle.rules.specs.Report.{Solved}
use Rattle.rules.specs.Guarantees.{Guaranteed, GuaranteedLightest}

-- A problem has at most one report by a rule, and the stores one content.
abbrev pub OneReport : Type 0 → Type 0
OneReport E =
    (R : Rules E) → Plain R → (P : Problem) → Fits P → (rule : Rule) (figures figures' : Figures E) (stores stores' : Stores E) →
    Solved R P rule figures stores → Solved R P rule figures' stores' → (figures ≡ figures') × (stores ≡ stores')

-- A problem has a report by either rule, but for a straight solve that meets a cycle.
abbrev pub SomeReport : Type 0 → Type 0
SomeReport E =
    (R : Rules E) → Plain R → (P : Problem) → Fits P → (rule : Rule) → (rule ≡ straight → Cycle (graph P) every → ⊥) →
    (figures : Figures E) × (stores : Stores E) × Solved R P rule figures stores

-- The report of a straight solve keeps what is guaranteed on every plain scale, and that of a bounded solve on every scale that also has gaps.
abbrev pub ReportGuarantees : Type 0 → Type 0
ReportGuarantees E =
    (R : Rules E) → Plain R → (P : Problem) → Sound P → (rule : Rule) → (rule ≡ bounded → Gaps R) → (figures : Figures E) (stores : Stores E) →
    Solved R P rule figures stores → Guaranteed R P rule figures

-- Where the scale has gaps, a report by either rule also guarantees that no lighter set of links clears every cycle.
abbrev pub ReportLightest : Type 0 → Type 0
ReportLightest E =
    (R : Rules E) → Plain R → Gaps R → (P : Problem) → Sound P → (rule : Rule) (figures : Figures E) (stores : Stores E) →
    Solved R P rule figures stores → GuaranteedLightest R P rule figures

-- The tree value of a straight solve is the highest score that a valid plan has.
abbrev pub StraightHighest : Type 0 → Type 0
StraightHighest E =
    (R : Rules E) → Plain R → (P : Problem) → Sound P → (figures : Figures E) (stores : Stores E) →
    Solved R P straight figures stores → Highest R (Valid P) (score R P) figures.tree
