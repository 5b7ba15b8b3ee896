-- What is proved of calls and their answers, over every scale of values. Assumes nothing.
use Rattle.std.specs.Prelude.{◌≡◌, List, Some}
use Rattle.scale.specs.Rules.{Rules}
use Rattle.scale.specs.Laws.{Plain, Gaps}
use Rattle.theory.specs.Problem.{no_problem}
use Rattle.theory.specs.Sizes.{Fits}
use Rattle.rules.specs.Figures.{Stores}
use Rattle.rules.specs.Report.{Solved}
use Rattle.calls.specs.State.{Standing, State, Call, Answer}
use Rattle.calls.specs.Step.{Step, Runs, Begins, unreported}
use Rattle.calls.specs.Promise.{PlainPromise, MeasuringPromise, Carries}

-- The promises stand on every plain scale, and on every measuring one.
abbrev pub PromisesStand : Type 0 → Type 0
PromisesStand E = (R : Rules E) → Plain R → PlainPromise R × (Gaps R → MeasuringPromise R)

-- The empty problem is a start.
abbrev pub EmptyBegins : Type 0 → Type 0
EmptyBegins E = (R : Rules E) → Begins R (unreported no_problem)

-- No call leaves the sizes.
abbrev pub StaysWithin : Type 0 → Type 0
StaysWithin E =
    (R : Rules E) (start : State E) (calls : List (Call × Answer E)) (state : State E) →
    Begins R start → Runs R start calls state → Fits state.problem

-- A report that stands is that of the tables as they are, by its rule.
abbrev pub ReportOfTables : Type 0 → Type 0
ReportOfTables E =
    (R : Rules E) (start : State E) (calls : List (Call × Answer E)) (state : State E) →
    Begins R start → Runs R start calls state →
    (standing : Standing E) → state.report ≡ Some standing → (stores : Stores E) × Solved R state.problem standing.rule standing.figures stores

-- A step is all that a call has to show.
abbrev pub StepsCarry : {E : Type 0} → Rules E → Type 0
StepsCarry {E} R = (s t : State E) (call : Call) (answer : Answer E) → Step R s call answer t → Carries R s call answer t

-- Within the sizes every call has an answer, and only one: nothing is left open by the steps, and nothing contradicts.
abbrev pub OneAnswer : Type 0 → Type 0
OneAnswer E =
    (R : Rules E) → Plain R → (s : State E) → Fits s.problem → (call : Call) →
    ((answer : Answer E) × (t : State E) × Step R s call answer t) ×
    ((answer answer' : Answer E) (t t' : State E) → Step R s call answer t → Step R s call answer' t' → (answer ≡ answer') × (t ≡ t'))
