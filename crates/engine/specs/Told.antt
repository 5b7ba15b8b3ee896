-- The report that stands, as it is told. Assumes nothing.
use Rattle.std.specs.Prelude.{◌≡◌, Some}
use Rattle.scale.specs.Rules.{Rules}
use Rattle.scale.specs.Laws.{Gaps}
use Rattle.theory.specs.KeptBy.{Rule}
use Rattle.rules.specs.Figures.{Figures}
use Rattle.rules.specs.Guarantees.{Guaranteed, GuaranteedLightest}
use Rattle.calls.specs.State.{State}
use Rattle.calls.specs.Promise.{Reached, PlainlyReached}

-- The figures are those of the report that stands in the state s.
pub record Told {E : Type 0} (R : Rules E) (s : State E) (figures : Figures E) : Type 0 where
  pub rule : Rule
  pub stands : s.report ≡ Some (record { rule = rule; figures = figures })
  -- After any calls that every scale has, no plan of the tables as they are passes the ceiling, nor its cut score the tree value.
  pub guaranteed : PlainlyReached R s → Guaranteed R s.problem rule figures
  -- On a measuring scale this holds after any calls at all, and no lighter set of links clears every cycle.
  pub lightest : Gaps R → Reached R s → GuaranteedLightest R s.problem rule figures
