-- The sheet of the problem that a file spells is the file's. Assumes nothing.
use Rattle.std.proofs.Common.{ℕ, List, Ok, Err, Result, sym, ◌∙◌, subst, inl, inr}
use Rattle.scale.specs.Rules.{Rules}
use Rattle.theory.specs.Graphs.{Graph, Cycle, every}
use Rattle.theory.specs.KeptBy.{Rule, straight, bounded}
use Rattle.theory.specs.Links.{graph}
use Rattle.theory.specs.Problem.{Problem}
use Rattle.theory.specs.Refusals.{First, NoneFits, Answered}
use Rattle.theory.proofs.Refusing.{first_after, none_both}
use Rattle.file.specs.declared.fault.FileFault.{FileFault}
use Rattle.file.specs.Numbers.{refusal}
use Rattle.file.specs.Reading.{ReadAs}
use Rattle.file.specs.Spelling.{Spells}
use Rattle.file.specs.Tests.{file_tests, at_place}
use Rattle.file.proofs.Unique.{one_problem}
use Rattle.sheets.specs.declared.printing.Sheet.{Sheet}
use Rattle.sheets.specs.Sheets.{solve_tests, SheetOf}
use Rattle.sheets.specs.Shows.{SpellsCycle, plan_tests, sheet_tests, Shows}
use Rattle.sheets.proofs.Graphs.{one_graph}

module _ {code : ℕ} {bs : List ℕ} {P : Problem} (spelled : Spells code bs P) where
  -- every problem that the bytes spell has the graph of this one
  has_cycle : SpellsCycle code bs → Cycle (graph P) every
  has_cycle c = subst (λ (G : Graph). Cycle G every) (one_graph (one_problem code bs c.problem P c.spelled spelled)) c.cycle

  first_told : (rule : Rule) (a : ℕ × ℕ) → First (at_place 0 (solve_tests rule P)) a → First (plan_tests code rule bs) a
  first_told straight a (inl here) = inl (spelled.variable_count ∙ here.0, here.1)
  first_told straight a (inr (some, inl here)) = inr ((λ none. some (sym spelled.variable_count ∙ none)), inl (record { problem = P; spelled = spelled; cycle = here.0 }, here.1))
  first_told straight a (inr (some, inr later)) = absurd later.1
  first_told bounded a (inl here) = inl (spelled.variable_count ∙ here.0, here.1)
  first_told bounded a (inr later) = absurd later.1

  none_told : (rule : Rule) → NoneFits (at_place 0 (solve_tests rule P)) → NoneFits (plan_tests code rule bs)
  none_told straight none = ((λ empty. none.0 (sym spelled.variable_count ∙ empty)), ((λ cycle. none.1.0 (has_cycle cycle)), tt))
  none_told bounded none = ((λ empty. none.0 (sym spelled.variable_count ∙ empty)), tt)

pub file_answered : {E : Type 0} (R : Rules E) (rule : Rule) (bs : List ℕ) (P : Problem) (r : Result Sheet FileFault) → NoneFits (file_tests R bs) → ReadAs R bs P →
    Answered refusal (at_place 0 (solve_tests rule P)) (SheetOf R P rule) r → Answered refusal (sheet_tests R rule bs) (Shows R rule bs) r
file_answered R rule bs P (Ok s) none read has =
    (none_both (file_tests R bs) (plan_tests R.code rule bs) none (none_told read.spelled rule has.0), record { problem = P; spelled = read.spelled; entries = read.entries; sheet = has.1 })
file_answered R rule bs P (Err f) none read first =
    first_after (file_tests R bs) (plan_tests R.code rule bs) (refusal f) none (first_told read.spelled rule (refusal f) first)
