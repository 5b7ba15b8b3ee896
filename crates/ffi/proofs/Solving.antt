-- Solves of the problem of a file, told by the tests of the file. Assumes nothing.
use Rattle.std.proofs.Common.{◌≡◌, ℕ, ◌≢◌, ◌⊎◌, List, ◌∷◌, Ok, Err, Result, refl, sym, ◌∙◌, subst, subst₂, inl, inr}
use Rattle.std.specs.Prelude.{ℤ}
use Rattle.scale.specs.Rules.{Rules}
use Rattle.theory.specs.Graphs.{Graph, Cycle, every}
use Rattle.theory.specs.KeptBy.{Rule, straight, bounded}
use Rattle.theory.specs.Links.{graph}
use Rattle.theory.specs.Problem.{Problem}
use Rattle.theory.specs.Refusals.{First, NoneFits, Answered}
use Rattle.theory.proofs.Refusing.{first_after, none_both}
use Rattle.rules.specs.Figures as exact
use Rattle.rules.specs.Report.{Solved}
use Rattle.calls.specs.Promise.{Carries}
use Rattle.calls.specs.State.{State, Call, Answer}
use Rattle.calls.specs.Step.{Step, Accepted}
use Rattle.calls.specs.Tests.{tests}
use Rattle.file.specs.declared.fault.FileFault.{FileFault}
use Rattle.file.specs.Numbers.{refusal}
use Rattle.file.specs.Reading.{ReadAs}
use Rattle.file.specs.Spelling.{Spells}
use Rattle.file.specs.Tests.{file_tests, at_place}
use Rattle.file.proofs.Unique.{one_problem}
use Rattle.sheets.specs.Sheets.{GuaranteedBy, SolvedAs}
use Rattle.sheets.specs.Shows.{SpellsCycle, plan_tests}
use Rattle.sheets.proofs.Graphs.{one_graph}
use Rattle.ffi.specs.declared.numbers.Figures.{Figures}
use Rattle.ffi.specs.Reports.{OtherLength, store_tests, run_tests, Leaves, Shows}

module _ {E : Type 0} {R : Rules E} {s : State E} where
  declined_first : {call : Call} {n : ℕ} {t : State E} → Step R s call (Answer.refused n) t → First (tests R s call) n
  declined_first (Step.declined first) = first

  solved_step : {rule : Rule} {v c : ℕ} {figures : exact.Figures E} {stores : exact.Stores E} {t : State E} → Step R s (Call.solve rule v c) (Answer.solved figures stores) t →
      Accepted R s (Call.solve rule v c) × Solved R s.problem rule figures stores × (t.problem ≡ s.problem)
  solved_step (Step.solved ok solved) = (ok, solved, refl)

-- Where the value store and the shown numbers have their lengths, only that of the choice store is left to test.
module _ {v c w : ℕ} (long : v ≡ 2304) (wide : w ≡ 4608) where
  to_lent : (v ≢ 2304) ⊎ (c ≢ 1024) → OtherLength c w
  to_lent (inl other) = absurd (other long)
  to_lent (inr other) = inl other

  from_lent : OtherLength c w → (v ≢ 2304) ⊎ (c ≢ 1024)
  from_lent (inl other) = inr other
  from_lent (inr other) = absurd (other wide)

module _ {E : Type 0} (R : Rules E) (s : State E) (v c w : ℕ) (long : v ≡ 2304) (wide : w ≡ 4608) where
  first_store : (rule : Rule) (n : ℕ) → First (tests R s (Call.solve rule v c)) n → First (store_tests rule c w s.problem) n
  first_store straight n (inl here) = inl (to_lent long wide here.0, here.1)
  first_store straight n (inr later) = inr ((λ other. later.0 (from_lent long wide other)), later.1)
  first_store bounded n (inl here) = inl (to_lent long wide here.0, here.1)
  first_store bounded n (inr later) = inr ((λ other. later.0 (from_lent long wide other)), later.1)

  none_store : (rule : Rule) → NoneFits (tests R s (Call.solve rule v c)) → NoneFits (store_tests rule c w s.problem)
  none_store straight none = ((λ other. none.0 (from_lent long wide other)), none.1)
  none_store bounded none = ((λ other. none.0 (from_lent long wide other)), none.1)

-- A solve of the problem P, with stores of these lengths, is answered by the tests of what is lent and of the problem.
module _ {E : Type 0} (R : Rules E) (rule : Rule) (s t : State E) (P : Problem) (v b c w : ℕ) (long : v ≡ 2304) (wide : w ≡ 4608) (size : b ≡ c) (same : s.problem ≡ P) where
  pub solve_declined : (n : ℕ) → Carries R s (Call.solve rule v b) (Answer.refused n) t → First (store_tests rule c w P) n
  solve_declined n carries =
      subst₂ (λ (k : ℕ) (X : Problem). First (store_tests rule k w X) n) size same (first_store R s v b w long wide rule n (declined_first carries.step))

  pub solve_accepted : (figures : exact.Figures E) (stores : exact.Stores E) → Carries R s (Call.solve rule v b) (Answer.solved figures stores) t → GuaranteedBy R t.problem rule figures →
      NoneFits (store_tests rule c w P) × SolvedAs R rule P t.problem figures stores
  solve_accepted figures stores carries guaranteed =
      let (ok, solved, kept) = solved_step carries.step in (
        subst₂ (λ (k : ℕ) (X : Problem). NoneFits (store_tests rule k w X)) size same (none_store R s v b w long wide rule ok),
        record {
          solved = subst (λ (X : Problem). Solved R X rule figures stores) same solved;
          guaranteed = subst (λ (X : Problem). GuaranteedBy R X rule figures) (kept ∙ same) guaranteed;
          same = kept ∙ same;
        },
      )

module _ {code : ℕ} {bs : List ℕ} {P : Problem} (spelled : Spells code bs P) where
  has_cycle : SpellsCycle code bs → Cycle (graph P) every
  has_cycle c = subst (λ (G : Graph). Cycle G every) (one_graph (one_problem code bs c.problem P c.spelled spelled)) c.cycle

  first_told : (rule : Rule) (c w : ℕ) (a : ℕ × ℕ) → First (at_place 0 (store_tests rule c w P)) a → First (((1, 0), OtherLength c w) ∷ plan_tests code rule bs) a
  first_told straight c w a (inl here) = inl here
  first_told straight c w a (inr (other, inl here)) = inr (other, inl (spelled.variable_count ∙ here.0, here.1))
  first_told straight c w a (inr (other, inr (some, inl here))) =
      inr (other, inr ((λ none. some (sym spelled.variable_count ∙ none)), inl (record { problem = P; spelled = spelled; cycle = here.0 }, here.1)))
  first_told straight c w a (inr (other, inr (some, inr later))) = absurd later.1
  first_told bounded c w a (inl here) = inl here
  first_told bounded c w a (inr (other, inl here)) = inr (other, inl (spelled.variable_count ∙ here.0, here.1))
  first_told bounded c w a (inr (other, inr later)) = absurd later.1

  none_told : (rule : Rule) (c w : ℕ) → NoneFits (at_place 0 (store_tests rule c w P)) → NoneFits (((1, 0), OtherLength c w) ∷ plan_tests code rule bs)
  none_told straight c w none = (none.0, ((λ empty. none.1.0 (sym spelled.variable_count ∙ empty)), ((λ cycle. none.1.1.0 (has_cycle cycle)), tt)))
  none_told bounded c w none = (none.0, ((λ empty. none.1.0 (sym spelled.variable_count ∙ empty)), tt))

pub file_solved : {E T : Type 0} (R : Rules E) (rule : Rule) (bs : List ℕ) (c w : ℕ) (P : Problem) (s : Figures) (choices : List ℕ) (shown : List ℤ) (r : Result T FileFault) →
    NoneFits (file_tests R bs) → ReadAs R bs P → Answered refusal (at_place 0 (store_tests rule c w P)) (λ _. Leaves R rule P s choices shown) r →
    Answered refusal (run_tests R rule bs c w) (λ _. Shows R rule bs s choices shown) r
file_solved R rule bs c w P s choices shown (Ok x) none read (fits, left) = (
  none_both (file_tests R bs) _ none (none_told read.spelled rule c w fits),
  record { problem = P; spelled = read.spelled; entries = read.entries; left = left },
)
file_solved R rule bs c w P s choices shown (Err f) none read first =
    first_after (file_tests R bs) _ (refusal f) none (first_told read.spelled rule c w (refusal f) first)
