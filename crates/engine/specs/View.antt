-- The open problem as its user sees it, and the results of its calls as answers. Assumes nothing.
use Rattle.std.specs.Prelude.{Some, None, Option, Ok, Err, Result}
use Rattle.theory.specs.KeptBy as by
use Rattle.layout.specs.declared.fault.ProblemFault.{ProblemFault}
use Rattle.layout.specs.Numbers.{problem_number}
use Rattle.tables.specs.View.{problem_of}
use Rattle.solving.specs.Report.{figures_of}
use Rattle.calls.specs.State as user
use Rattle.calls.specs.State.{State, Answer}
use Rattle.engine.specs.declared.standing.Rule.{Rule}
use Rattle.engine.specs.declared.standing.Rule.TheVariants.{Straight, Bounded}
use Rattle.engine.specs.declared.standing.Standing.{Standing}
use Rattle.engine.specs.declared.problem.Problem.{Problem}

abbrev pub rule_of : Rule → by.Rule
rule_of Straight = by.straight
rule_of Bounded = by.bounded

-- the report that stands, if any, in exact values
abbrev pub standing_of : {V E : Type 0} → (V → E) → Option (Standing V) → Option (user.Standing E)
standing_of means None = None
standing_of means (Some s) = Some (record { rule = rule_of s.rule; figures = figures_of means s.report })

abbrev pub state_of : {V E : Type 0} → (V → E) → Problem V → State E
state_of means p = record { problem = problem_of p.tables; report = standing_of means p.standing }

-- What a result answers: if declined, the number of its fault.
abbrev pub answer_by : {T E : Type 0} → (T → Answer E) → Result T ProblemFault → Answer E
answer_by accepted (Ok x) = accepted x
answer_by accepted (Err f) = Answer.refused (problem_number f)
