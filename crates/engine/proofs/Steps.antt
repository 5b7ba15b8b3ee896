-- Results of calls as steps of the open problem. Assumes nothing.
use Rattle.std.proofs.Common.{◌≡◌, Ok, Err, Result, sym, refl, subst, subst₂}
use Rattle.scale.specs.Rules.{Rules}
use Rattle.scale.specs.Laws.{Plain}
use Rattle.theory.specs.Refusals.{NoneFits, Answered, Untouched}
use Rattle.layout.specs.declared.fault.ProblemFault.{ProblemFault}
use Rattle.layout.specs.Numbers.{problem_number}
use Rattle.calls.specs.Promise.{Carries}
use Rattle.calls.specs.State.{State, Call, Answer}
use Rattle.calls.specs.Step.{Step}
use Rattle.calls.specs.Tests.{tests}
use Rattle.calls.proofs.Promised.{carried}
use Rattle.engine.specs.declared.problem.Problem.{Problem}
use Rattle.engine.specs.View.{state_of, answer_by}

-- A call that answers as its tests say carries the promises, if what it accepts is a step, and if it leaves the problem as it was where it declines.
pub step_carries : {V E T : Type 0} (R : Rules E) → Plain R → (means : V → E) (p q : Problem V) (call : Call) (accepted : T → Answer E) (Q : T → Type 0) (r : Result T ProblemFault) →
    Answered problem_number (tests R (state_of means p) call) Q r → Untouched r p q →
    ((x : T) → NoneFits (tests R (state_of means p) call) → Q x → Step R (state_of means p) call (accepted x) (state_of means q)) →
    Carries R (state_of means p) call (answer_by accepted r) (state_of means q)
step_carries R L means p q call accepted Q (Ok x) (none, has) untouched step = carried R L (state_of means p) (state_of means q) call (accepted x) (step x none has)
step_carries R L means p q call accepted Q (Err f) first untouched step =
    subst (λ (o : Problem _). Carries R (state_of means p) call (Answer.refused (problem_number f)) (state_of means o)) (sym untouched)
    (carried R L (state_of means p) (state_of means p) call (Answer.refused (problem_number f)) (Step.declined first))

-- a step whose answer and state are told otherwise
pub retold : {E : Type 0} {R : Rules E} {s t u : State E} {call : Call} {a b : Answer E} → a ≡ b → t ≡ u → Step R s call b u → Step R s call a t
retold {R = R} {s = s} {call = call} answers states step = subst₂ (λ (a : Answer _) (t : State _). Step R s call a t) (sym answers) (sym states) step

pub steady : {T X : Type 0} (r : Result T ProblemFault) (p : X) → Untouched r p p
steady (Ok x) p = tt
steady (Err f) p = refl
