-- What each call may answer, and what it leaves. Assumes nothing.
use Rattle.std.specs.Prelude.{◌≡◌, ℕ, ◌<◌, true, List, [], ◌∷◌, ◌++◌, length, replicate, Some, None, slice_index}
use Rattle.std.proofs.Math.ListN as lists
use Rattle.scale.specs.Rules.{Rules}
use Rattle.theory.specs.Problem.{Problem, variables, functions, function, score}
use Rattle.theory.specs.Sizes.{Fits, combinations}
use Rattle.theory.specs.Refusals.{First, NoneFits}
use Rattle.theory.specs.Cut.{Weighs}
use Rattle.theory.specs.KeptBy.{Rule}
use Rattle.rules.specs.Figures.{Figures, Stores, planned}
use Rattle.rules.specs.Report.{Solved}
use Rattle.calls.specs.State.{Standing, State, Call, Answer}
use Rattle.calls.specs.Tests.{tests}

-- A problem with one more variable, with one more function, and with one word changed.
abbrev pub with_variable : Problem → ℕ → Problem
with_variable P size = record { domains = P.domains ++ (size ∷ []); tables = P.tables }

abbrev pub with_function : Problem → List ℕ → ℕ → Problem
with_function P scope word = record {
  domains = P.domains;
  tables = P.tables ++ (record { scope = scope; words = replicate (combinations P.domains scope) word } ∷ []);
}

abbrev pub with_word : Problem → ℕ → ℕ → ℕ → Problem
with_word P f index word = record {
  domains = P.domains;
  tables = lists.set P.tables f (record { scope = (function P f).scope; words = lists.set (function P f).words index word });
}

-- A problem without a report, and with one.
abbrev pub unreported : {E : Type 0} → Problem → State E
unreported P = record { problem = P; report = None }

abbrev pub reported : {E : Type 0} → Problem → Rule → Figures E → State E
reported P rule figures = record { problem = P; report = Some (record { rule = rule; figures = figures }) }

module _ {E : Type 0} (R : Rules E) where
  -- no test of the call fits
  abbrev pub Accepted : State E → Call → Type 0
  Accepted s call = NoneFits (tests R s call)

  pub data Step (s : State E) : Call → Answer E → State E → Type 0 where
    -- A declined call answers the first number that fits, and leaves everything as it was.
    declined : {call : Call} {n : ℕ} → First (tests R s call) n → Step s call (Answer.refused n) s
    -- An accepted add or set withdraws the report.
    variable_added : {size : ℕ} → Accepted s (Call.add_variable size) →
        Step s (Call.add_variable size) (Answer.number (variables s.problem)) (unreported (with_variable s.problem size))
    function_added : {scope : List ℕ} → Accepted s (Call.add_function scope) →
        Step s (Call.add_function scope) (Answer.number (functions s.problem)) (unreported (with_function s.problem scope R.neutral_word))
    entry_set : {f index word : ℕ} → Accepted s (Call.set_entry f index word) →
        Step s (Call.set_entry f index word) Answer.done (unreported (with_word s.problem f index word))
    -- An accepted solve answers the report of the problem as it is, which then stands.
    solved : {rule : Rule} {values choices : ℕ} {figures : Figures E} {stores : Stores E} → Accepted s (Call.solve rule values choices) →
        Solved R s.problem rule figures stores →
        Step s (Call.solve rule values choices) (Answer.solved figures stores) (reported s.problem rule figures)
    -- The other calls leave everything as it was.
    told : {standing : Standing E} → s.report ≡ Some standing → Step s Call.report (Answer.told standing.figures) s
    scored : {values : List ℕ} → Accepted s (Call.score values) → Step s (Call.score values) (Answer.value (score R s.problem (planned values))) s
    weighed : {f p : ℕ} {w : E} → Accepted s (Call.weight f p) → Weighs R s.problem f p w → Step s (Call.weight f p) (Answer.value w) s

  -- a list of calls with their answers, from one state to another
  abbrev pub Runs : State E → List (Call × Answer E) → State E → Type 0
  Runs s [] t = s ≡ t
  Runs s (c ∷ cs) t = (u : State E) × Step s c.0 c.1 u × Runs u cs t

  -- A start: any domains, scopes and entries within the sizes, and no report.
  pub record Begins (s : State E) : Type 0 where
    pub fits : Fits s.problem
    pub entries : (f i : ℕ) → f < functions s.problem → i < length (function s.problem f).words → R.entry (slice_index (function s.problem f).words i) ≡ true
    pub unreported : s.report ≡ None
