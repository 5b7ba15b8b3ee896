-- Examples of calls worked through, in points. Assumes nothing.
use Rattle.std.specs.Prelude.{◌≡◌, ℕ, List, [], ◌∷◌, None, ℤ}
use Rattle.scale.specs.Points.{points}
use Rattle.theory.specs.Problem.{no_problem}
use Rattle.theory.specs.KeptBy.{straight}
use Rattle.theory.specs.Refusals.{First}
use Rattle.calls.specs.State.{State, Call, Answer}
use Rattle.calls.specs.Step.{Step, Runs, unreported}
use Rattle.calls.specs.Tests.{tests}
use Rattle.worked.specs.Table.{pair}

-- n is what the call is declined by, on the pair and on the empty problem
abbrev pub Declines : Call → ℕ → Type 0
Declines call n = First (tests points (unreported {E = ℤ} pair) call) n

abbrev pub DeclinesEmpty : Call → ℕ → Type 0
DeclinesEmpty call n = First (tests points (unreported {E = ℤ} no_problem) call) n

-- Where several tests of a call fit, the first one answers.
pub record FirstAnswers : Type 0 where
  -- no such function, and so no such index, and no entry; no such index and no entry; no entry
  pub function : Declines (Call.set_entry 2 4 1000001) 9
  pub index : Declines (Call.set_entry 0 4 1000001) 10
  pub word : Declines (Call.set_entry 0 3 1000001) 11
  -- no such function, and so no such place; no such place
  pub link : Declines (Call.weight 2 2) 9
  pub place : Declines (Call.weight 0 2) 17
  -- a list of one value, which its variable has not; a list with such a value
  pub length : Declines (Call.score (2 ∷ [])) 15
  pub value : Declines (Call.score (2 ∷ 0 ∷ [])) 16
  -- stores of no cells, and no variables; no variables
  pub store : DeclinesEmpty (Call.solve straight 0 0) 1
  pub variables : DeclinesEmpty (Call.solve straight 2304 1024) 12
  pub report : DeclinesEmpty Call.report 14

-- Calls on the empty problem that make one function of two variables, with one entry that is not 0.
abbrev pub CallsBuild : Type 0
CallsBuild =
    Runs points (unreported no_problem)
    ((Call.add_variable 2, Answer.number 0) ∷
    (Call.add_variable 3, Answer.number 1) ∷
    (Call.add_function (0 ∷ 1 ∷ []), Answer.number 0) ∷
    (Call.set_entry 0 4 7, Answer.done) ∷
    (Call.set_entry 1 0 7, Answer.refused 9) ∷ [])
    (unreported (record { domains = 2 ∷ 3 ∷ []; tables = record { scope = 0 ∷ 1 ∷ []; words = 0 ∷ 0 ∷ 0 ∷ 0 ∷ 7 ∷ 0 ∷ [] } ∷ [] }))

-- After an accepted add or set no report stands, whichever stood before.
pub record Withdrawn (s t : State ℤ) : Type 0 where
  pub variable : (size number : ℕ) → Step points s (Call.add_variable size) (Answer.number number) t → t.report ≡ None
  pub function : (scope : List ℕ) (number : ℕ) → Step points s (Call.add_function scope) (Answer.number number) t → t.report ≡ None
  pub entry : (f index word : ℕ) → Step points s (Call.set_entry f index word) Answer.done t → t.report ≡ None

abbrev pub CallsWithdraw : Type 0
CallsWithdraw = (s t : State ℤ) → Withdrawn s t
