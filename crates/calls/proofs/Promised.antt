-- The promises over any list of calls, by induction on the list. Assumes nothing.
use Rattle.std.proofs.Common.{◌≡◌, ℕ, true, List, [], ◌∷◌, ◌++◌, Some, None, sym, refl, ap, ◌∙◌, subst, arith}
use Rattle.std.proofs.lemmas.Bool.{false≢true}
use Rattle.scale.specs.Rules.{Rules}
use Rattle.scale.specs.Laws.{Plain, Gaps}
use Rattle.theory.specs.Sizes.{Fits}
use Rattle.theory.specs.KeptBy.{Rule, straight, bounded}
use Rattle.rules.specs.Figures.{Figures, Stores}
use Rattle.rules.specs.Report.{Solved}
use Rattle.rules.specs.Guarantees.{Guaranteed, GuaranteedLightest}
use Rattle.rules.proofs.Guarantees.{report_guaranteed, lightest_guaranteed}
use Rattle.calls.specs.State.{Standing, State, Call, Answer}
use Rattle.calls.specs.Step.{Step, Runs, Begins, reported}
use Rattle.calls.specs.Promise.{plain, AllPlain, PlainPromise, MeasuringPromise, Reached, PlainlyReached, Carries}
use Rattle.calls.proofs.Within.{variable_fits, function_fits, word_fits}

pub differ : straight ≡ bounded → ⊥
differ d = let z : ◌≡◌ {A = ℕ} 0 1 = cc in omega arith

module _ {E : Type 0} (R : Rules E) where
  -- the report, if one stands, is that of the problem by its rule
  Stands : State E → Type 0
  Stands s = (st : Standing E) → s.report ≡ Some st → (stores : Stores E) × Solved R s.problem st.rule st.figures stores

  -- what each call keeps true of the state
  record Held (s : State E) : Type 0 where
    fits : Fits s.problem
    stands : Stands s

  -- where the report is withdrawn, nothing is to show
  withdrawn : (s : State E) → s.report ≡ None → Stands s
  unfolding Stands
  withdrawn s e st f = let z : ◌≡◌ {A = ℕ} 0 1 = cc in absurd (omega arith)

  replaced : (s : State E) (rule : Rule) (figures : Figures E) (stores : Stores E) → Solved R s.problem rule figures stores → Stands (reported s.problem rule figures)
  unfolding Stands
  replaced s rule figures stores solved st e =
      let own : Standing E = record { rule = rule; figures = figures } in
      let same : own ≡ st = cc in
      subst (λ (x : Standing E). (stores : Stores E) × Solved R s.problem x.rule x.figures stores) same (stores, solved)

  held_more : (s : State E) {c : Call} {a : Answer E} {t : State E} → Step R s c a t → Held s → Held t
  held_more s (Step.declined first) held = held
  held_more s (Step.variable_added {size} ok) held = record { fits = variable_fits R s held.fits size ok; stands = withdrawn _ refl }
  held_more s (Step.function_added {scope} ok) held = record { fits = function_fits R s held.fits scope R.neutral_word ok; stands = withdrawn _ refl }
  held_more s (Step.entry_set {f} {index} {word} ok) held = record { fits = word_fits R s held.fits f index word ok; stands = withdrawn _ refl }
  held_more s (Step.solved {rule} {figures = figures} {stores = stores} ok solved) held = record { fits = held.fits; stands = replaced s rule figures stores solved }
  held_more s (Step.told is) held = held
  held_more s (Step.scored ok) held = held
  held_more s (Step.weighed ok is) held = held

  held_all : (cs : List (Call × Answer E)) (s t : State E) → Runs R s cs t → Held s → Held t
  held_all [] s t e held = subst Held e held
  held_all (c ∷ cs) s t run held = held_all cs run.0 t run.2 (held_more s run.1 held)

  begun : {s : State E} → Begins R s → Held s
  begun {s} begins = record { fits = begins.fits; stands = withdrawn s begins.unreported }

  pub stays_within : (start : State E) (calls : List (Call × Answer E)) (state : State E) → Begins R start → Runs R start calls state → Fits state.problem
  stays_within start calls state begins runs = (held_all calls start state runs (begun begins)).fits

  pub report_of_tables : (start : State E) (calls : List (Call × Answer E)) (state : State E) → Begins R start → Runs R start calls state →
      (st : Standing E) → state.report ≡ Some st → (stores : Stores E) × Solved R state.problem st.rule st.figures stores
  unfolding Stands
  report_of_tables start calls state begins runs = (held_all calls start state runs (begun begins)).stands

  -- calls that every scale has leave only reports of straight solves
  Straightly : State E → Type 0
  Straightly s = (st : Standing E) → s.report ≡ Some st → st.rule ≡ straight

  unsaid : (s : State E) → s.report ≡ None → Straightly s
  unfolding Straightly
  unsaid s e st f = let z : ◌≡◌ {A = ℕ} 0 1 = cc in absurd (omega arith)

  straight_solved : (s : State E) (rule : Rule) (values choices : ℕ) (figures : Figures E) → plain (Call.solve rule values choices) ≡ true → Straightly (reported s.problem rule figures)
  unfolding Straightly
  straight_solved s straight values choices figures ok st e =
      let own : Standing E = record { rule = straight; figures = figures } in
      let same : own ≡ st = cc in
      ap (λ (x : Standing E). x.rule) (sym same)
  straight_solved s bounded values choices figures ok st e = absurd (false≢true ok)

  straightly_more : (s : State E) {c : Call} {a : Answer E} {t : State E} → Step R s c a t → plain c ≡ true → Straightly s → Straightly t
  straightly_more s (Step.declined first) ok held = held
  straightly_more s (Step.variable_added on) ok held = unsaid _ refl
  straightly_more s (Step.function_added on) ok held = unsaid _ refl
  straightly_more s (Step.entry_set on) ok held = unsaid _ refl
  straightly_more s (Step.solved {rule} {values} {choices} {figures} on solved) ok held = straight_solved s rule values choices figures ok
  straightly_more s (Step.told is) ok held = held
  straightly_more s (Step.scored on) ok held = held
  straightly_more s (Step.weighed on is) ok held = held

  straightly_all : (cs : List (Call × Answer E)) (s t : State E) → Runs R s cs t → AllPlain cs → Straightly s → Straightly t
  straightly_all [] s t e ok held = subst Straightly e held
  straightly_all (c ∷ cs) s t run ok held = straightly_all cs run.0 t run.2 ok.1 (straightly_more s run.1 ok.0 held)

  module _ (L : Plain R) where
    pub plain_promised : PlainPromise R
    unfolding Stands Straightly
    plain_promised start calls state begins ok runs st e =
        let held = held_all calls start state runs (begun begins) in
        let (stores, solved) = held.stands st e in
        let is = straightly_all calls start state runs ok (unsaid start begins.unreported) st e in
        report_guaranteed R L state.problem held.fits.sound st.rule (λ other. absurd (differ (sym is ∙ other))) st.figures stores solved

    pub measuring_promised : Gaps R → MeasuringPromise R
    unfolding Stands
    measuring_promised G start calls state begins runs st e =
        let held = held_all calls start state runs (begun begins) in
        let (stores, solved) = held.stands st e in
        lightest_guaranteed R L G state.problem held.fits.sound st.rule st.figures stores solved

  runs_more : (cs : List (Call × Answer E)) (s : State E) {t u : State E} {c : Call} {a : Answer E} → Runs R s cs t → Step R t c a u → Runs R s (cs ++ ((c, a) ∷ [])) u
  runs_more [] s {t} {u} {c} {a} e step = (u, subst (λ (x : State E). Step R x c a u) (sym e) step, refl)
  runs_more (d ∷ cs) s run step = (run.0, run.1, runs_more cs run.0 run.2 step)

  plain_more : (cs : List (Call × Answer E)) (c : Call) (a : Answer E) → AllPlain cs → plain c ≡ true → AllPlain (cs ++ ((c, a) ∷ []))
  plain_more [] c a ok new = (new, tt)
  plain_more (d ∷ cs) c a ok new = (ok.0, plain_more cs c a ok.1 new)

  pub carried : Plain R → (s t : State E) (call : Call) (answer : Answer E) → Step R s call answer t → Carries R s call answer t
  carried L s t call answer step = record {
    step = step;
    reached = λ r. (r.0, r.1 ++ ((call, answer) ∷ []), r.2, runs_more r.1 r.0 r.3 step);
    plainly_reached = λ ok r. (r.0, r.1 ++ ((call, answer) ∷ []), r.2, plain_more r.1 call answer r.3 ok, runs_more r.1 r.0 r.4 step);
    plain_promise = plain_promised L;
    measuring_promise = measuring_promised L;
  }

  -- what a report guarantees in a state that calls have reached
  pub plainly_guaranteed : Plain R → {s : State E} {st : Standing E} → PlainlyReached R s → s.report ≡ Some st → Guaranteed R s.problem st.rule st.figures
  plainly_guaranteed L {s} {st} r is = plain_promised L r.0 r.1 s r.2 r.3 r.4 st is

  pub lightest_reached : Plain R → Gaps R → {s : State E} {st : Standing E} → Reached R s → s.report ≡ Some st → GuaranteedLightest R s.problem st.rule st.figures
  lightest_reached L G {s} {st} r is = measuring_promised L G r.0 r.1 s r.2 r.3 st is
