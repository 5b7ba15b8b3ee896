-- A step that is a solve, told by the tests of its problem. Assumes nothing.
use Rattle.std.proofs.Common.{◌≡◌, ℕ, ◌≢◌, ◌⊎◌, Ok, Err, Result, IfOk, refl, subst, inl, inr}
use Rattle.scale.specs.Rules.{Rules}
use Rattle.theory.specs.KeptBy.{Rule, straight, bounded}
use Rattle.theory.specs.Problem.{Problem}
use Rattle.theory.specs.Refusals.{First, NoneFits, Answered}
use Rattle.layout.specs.declared.fault.ProblemFault.{ProblemFault}
use Rattle.layout.specs.Numbers.{problem_number}
use Rattle.rules.specs.Figures.{Figures, Stores}
use Rattle.rules.specs.Report.{Solved}
use Rattle.calls.specs.Promise.{Carries}
use Rattle.calls.specs.State.{State, Call, Answer}
use Rattle.calls.specs.Step.{Step, Accepted}
use Rattle.calls.specs.Tests.{tests}
use Rattle.engine.specs.View.{answer_by}
use Rattle.sheets.specs.Sheets.{solve_tests, GuaranteedBy, SolvedAs}

module _ {E : Type 0} {R : Rules E} {s : State E} where
  declined_first : {call : Call} {n : ℕ} {t : State E} → Step R s call (Answer.refused n) t → First (tests R s call) n
  declined_first (Step.declined first) = first

  solved_step : {rule : Rule} {v c : ℕ} {figures : Figures E} {stores : Stores E} {t : State E} → Step R s (Call.solve rule v c) (Answer.solved figures stores) t →
      Accepted R s (Call.solve rule v c) × Solved R s.problem rule figures stores × (t.problem ≡ s.problem)
  solved_step (Step.solved ok solved) = (ok, solved, refl)

-- stores with their lengths meet no test
fitting : {v c : ℕ} → v ≡ 2304 → c ≡ 1024 → (v ≢ 2304) ⊎ (c ≢ 1024) → ⊥
fitting h k (inl long) = long h
fitting h k (inr long) = long k

module _ {E : Type 0} (R : Rules E) (s : State E) (v c : ℕ) (fits : (v ≢ 2304) ⊎ (c ≢ 1024) → ⊥) where
  first_later : (rule : Rule) (n : ℕ) → First (tests R s (Call.solve rule v c)) n → First (solve_tests rule s.problem) n
  first_later straight n (inl here) = absurd (fits here.0)
  first_later straight n (inr later) = later.1
  first_later bounded n (inl here) = absurd (fits here.0)
  first_later bounded n (inr later) = later.1

  none_later : (rule : Rule) → NoneFits (tests R s (Call.solve rule v c)) → NoneFits (solve_tests rule s.problem)
  none_later straight none = none.1
  none_later bounded none = none.1

-- A solve that carries the promise, with stores of their lengths, is answered by the tests of its problem.
pub solve_answered : {E T : Type 0} (R : Rules E) (s t : State E) (rule : Rule) (v c : ℕ) (figures : Figures E) (stores : Stores E) (r : Result T ProblemFault) →
    v ≡ 2304 → c ≡ 1024 → Carries R s (Call.solve rule v c) (answer_by (λ _. Answer.solved figures stores) r) t → IfOk r (λ _. GuaranteedBy R t.problem rule figures) →
    Answered problem_number (solve_tests rule s.problem) (λ _. SolvedAs R rule s.problem t.problem figures stores) r
solve_answered R s t rule v c figures stores (Ok x) h k carries guaranteed =
    let (ok, solved, same) = solved_step carries.step in
    (none_later R s v c (fitting h k) rule ok, record { solved = solved; guaranteed = subst (λ (P : Problem). GuaranteedBy R P rule figures) same guaranteed; same = same })
solve_answered R s t rule v c figures stores (Err f) h k carries guaranteed =
    first_later R s v c (fitting h k) rule (problem_number f) (declined_first carries.step)
