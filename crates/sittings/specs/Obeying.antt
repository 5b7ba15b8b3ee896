-- What a request makes of an open problem, and what is replied. Assumes nothing.
use Rattle.std.specs.Prelude.{◌≡◌}
use Rattle.scale.specs.Rules.{Rules}
use Rattle.theory.specs.Problem.{Problem}
use Rattle.rules.specs.Figures.{Figures}
use Rattle.calls.specs.Promise.{Carries}
use Rattle.calls.specs.State.{State, Call, Answer, add_variable, add_function, set_entry, solve, report, score, weight, refused, number, done, solved, told, value}
use Rattle.sheets.specs.declared.printing.Sheet.{Sheet}
use Rattle.sheets.specs.Sheets.{Tells}
use Rattle.sittings.specs.declared.reply.Reply.{Reply}
use Rattle.sittings.specs.declared.reply.Reply.TheVariants.{VariableAdded, FunctionAdded, EntrySet, Weighed, Scored, Told, Refused}

module _ {E : Type 0} (R : Rules E) where
  -- the reply shows figures of the problem P
  abbrev pub Reports : Problem → Figures E → Reply → Type 0
  Reports P figures r = (sheet : Sheet) × (r ≡ Told sheet) × Tells R P figures sheet

  -- The reply to a call says its answer; P is the problem after it.
  abbrev pub Says : Problem → Answer E → Call → Reply → Type 0
  Says P (refused n) call r = r ≡ Refused n
  Says P (number n) (add_variable size) r = r ≡ VariableAdded n
  Says P (number n) (add_function scope) r = r ≡ FunctionAdded n
  Says P done (set_entry function index word) r = r ≡ EntrySet function index
  Says P (solved figures stores) (solve rule values choices) r = Reports P figures r
  Says P (told figures) report r = Reports P figures r
  Says P (value x) (score list) r = r ≡ Scored (R.shown x)
  Says P (value x) (weight function place) r = r ≡ Weighed (R.shown x)
  Says P _ _ r = ⊥

  -- The call is made on the state s, with the promise over any list of calls; the reply says its answer, and t is the state after it.
  pub record Obeyed (s : State E) (call : Call) (r : Reply) (t : State E) : Type 0 where
    pub answer : Answer E
    pub carries : Carries R s call answer t
    pub says : Says t.problem answer call r
