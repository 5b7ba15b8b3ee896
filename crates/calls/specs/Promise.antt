-- What a report guarantees, after any list of calls. Assumes nothing.
use Rattle.std.specs.Prelude.{◌≡◌, Bool, true, false, List, [], ◌∷◌, Some}
use Rattle.scale.specs.Rules.{Rules}
use Rattle.scale.specs.Laws.{Gaps}
use Rattle.theory.specs.KeptBy.{straight, bounded}
use Rattle.rules.specs.Guarantees.{Guaranteed, GuaranteedLightest}
use Rattle.calls.specs.State.{Standing, State, Call, Answer, add_variable, add_function, set_entry, solve, report, weight}
use Rattle.calls.specs.Step.{Step, Runs, Begins}

-- the calls that every scale has; bounded solve and weight are for measuring scales
abbrev pub plain : Call → Bool
plain (add_variable size) = true
plain (add_function scope) = true
plain (set_entry f index word) = true
plain (solve straight values choices) = true
plain (solve bounded values choices) = false
plain report = true
plain (Call.score values) = true
plain (weight f p) = false

abbrev pub AllPlain : {E : Type 0} → List (Call × Answer E) → Type 0
AllPlain [] = Unit {0}
AllPlain (c ∷ cs) = (plain c.0 ≡ true) × AllPlain cs

module _ {E : Type 0} (R : Rules E) where
  -- From any start, after any calls that every scale has, a report that stands guarantees its ceiling and its tree value for the tables as they are.
  abbrev pub PlainPromise : Type 0
  PlainPromise =
      (start : State E) (calls : List (Call × Answer E)) (state : State E) →
      Begins R start → AllPlain calls → Runs R start calls state →
      (standing : Standing E) → state.report ≡ Some standing →
      Guaranteed R state.problem standing.rule standing.figures

  -- On a measuring scale, after any calls at all, it also guarantees that no lighter set of links clears every cycle.
  abbrev pub MeasuringPromise : Type 0
  MeasuringPromise =
      (start : State E) (calls : List (Call × Answer E)) (state : State E) →
      Begins R start → Runs R start calls state →
      (standing : Standing E) → state.report ≡ Some standing →
      GuaranteedLightest R state.problem standing.rule standing.figures

  -- s is reached from a start by calls, and by calls that every scale has
  abbrev pub Reached : State E → Type 0
  Reached s = (start : State E) × (calls : List (Call × Answer E)) × Begins R start × Runs R start calls s

  abbrev pub PlainlyReached : State E → Type 0
  PlainlyReached s = (start : State E) × (calls : List (Call × Answer E)) × Begins R start × AllPlain calls × Runs R start calls s

  -- What every call carries: it is a step, what was reached before it leads to what is reached after it, and the promises stand.
  pub record Carries (s : State E) (call : Call) (answer : Answer E) (t : State E) : Type 0 where
    pub step : Step R s call answer t
    pub reached : Reached s → Reached t
    pub plainly_reached : plain call ≡ true → PlainlyReached s → PlainlyReached t
    pub plain_promise : PlainPromise
    pub measuring_promise : Gaps R → MeasuringPromise
