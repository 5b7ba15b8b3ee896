-- A call has one answer. Assumes nothing.
use Rattle.std.proofs.Common.{◌≡◌, ℕ, Some, None, refl, ap, ap₂, inl, inr, arith}
use Rattle.scale.specs.Rules.{Rules}
use Rattle.scale.specs.Laws.{Plain}
use Rattle.theory.specs.Sizes.{Fits}
use Rattle.theory.specs.Refusals.{First}
use Rattle.theory.proofs.Refusing.{first_once, first_none}
use Rattle.calls.specs.State.{Standing, State, Call, Answer}
use Rattle.calls.specs.Tests.{tests}
use Rattle.calls.specs.Step.{Step, reported}
use Rattle.rules.proofs.OneReport.{one_report_lem}
use Rattle.rules.proofs.Weights.{weighs_once}

module _ {E : Type 0} (R : Rules E) (L : Plain R) where
  -- a report that stands is not absent
  stands_not : (s : State E) (st : Standing E) → s.report ≡ Some st → s.report ≡ None → ⊥
  stands_not s st e f = let z : ◌≡◌ {A = ℕ} 0 1 = cc in omega arith

  told_first : (s : State E) (st : Standing E) (n : ℕ) → s.report ≡ Some st → First (tests R s Call.report) n → ⊥
  told_first s st n e (inl a) = stands_not s st e a.0
  told_first s st n e (inr a) = a.1

  pub one_step : (s : State E) → Fits s.problem → {c : Call} {a a' : Answer E} {t t' : State E} → Step R s c a t → Step R s c a' t' → (a ≡ a') × (t ≡ t')
  one_step s fits (Step.declined {call} {n} first) (Step.declined {n = m} first') = (ap Answer.refused (first_once (tests R s call) n m first first'), refl)
  one_step s fits (Step.declined {n = n} first) (Step.variable_added {size} ok) = absurd (first_none (tests R s (Call.add_variable size)) n first ok)
  one_step s fits (Step.declined {n = n} first) (Step.function_added {scope} ok) = absurd (first_none (tests R s (Call.add_function scope)) n first ok)
  one_step s fits (Step.declined {n = n} first) (Step.entry_set {f} {index} {word} ok) = absurd (first_none (tests R s (Call.set_entry f index word)) n first ok)
  one_step s fits (Step.declined {n = n} first) (Step.solved {rule} {values} {choices} ok solved) = absurd (first_none (tests R s (Call.solve rule values choices)) n first ok)
  one_step s fits (Step.declined {n = n} first) (Step.told {standing = st} is) = absurd (told_first s st n is first)
  one_step s fits (Step.declined {n = n} first) (Step.scored {values} ok) = absurd (first_none (tests R s (Call.score values)) n first ok)
  one_step s fits (Step.declined {n = n} first) (Step.weighed {f} {p} ok is) = absurd (first_none (tests R s (Call.weight f p)) n first ok)
  one_step s fits (Step.variable_added {size} ok) (Step.declined {n = n} first) = absurd (first_none (tests R s (Call.add_variable size)) n first ok)
  one_step s fits (Step.variable_added ok) (Step.variable_added ok') = (refl, refl)
  one_step s fits (Step.function_added {scope} ok) (Step.declined {n = n} first) = absurd (first_none (tests R s (Call.add_function scope)) n first ok)
  one_step s fits (Step.function_added ok) (Step.function_added ok') = (refl, refl)
  one_step s fits (Step.entry_set {f} {index} {word} ok) (Step.declined {n = n} first) = absurd (first_none (tests R s (Call.set_entry f index word)) n first ok)
  one_step s fits (Step.entry_set ok) (Step.entry_set ok') = (refl, refl)
  one_step s fits (Step.solved {rule} {values} {choices} ok solved) (Step.declined {n = n} first) = absurd (first_none (tests R s (Call.solve rule values choices)) n first ok)
  one_step s fits (Step.solved {rule} {figures = figures} {stores = stores} ok solved) (Step.solved {figures = figures'} {stores = stores'} ok' solved') =
      let same = one_report_lem R L s.problem fits rule figures figures' stores stores' solved solved' in
      (ap₂ Answer.solved same.0 same.1, ap (reported s.problem rule) same.0)
  one_step s fits (Step.told {standing = st} is) (Step.declined {n = n} first) = absurd (told_first s st n is first)
  one_step s fits (Step.told {standing = st} is) (Step.told {standing = st'} is') = let same : st ≡ st' = cc in (ap (λ (x : Standing E). Answer.told x.figures) same, refl)
  one_step s fits (Step.scored {values} ok) (Step.declined {n = n} first) = absurd (first_none (tests R s (Call.score values)) n first ok)
  one_step s fits (Step.scored ok) (Step.scored ok') = (refl, refl)
  one_step s fits (Step.weighed {f} {p} ok is) (Step.declined {n = n} first) = absurd (first_none (tests R s (Call.weight f p)) n first ok)
  one_step s fits (Step.weighed {f} {p} {w} ok is) (Step.weighed {w = w'} ok' is') = (ap Answer.value (weighs_once R L s.problem f p w w' is is'), refl)
