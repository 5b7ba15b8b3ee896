-- What a report that stands says besides its guarantees, on any scale; and the weight of a link by the entries that differ. Assumes nothing.
use Rattle.std.proofs.Common.{◌≡◌, ℕ, List, Some, sym, refl, ap, ◌∙◌, ap₂, arith}
use Rattle.scale.specs.Rules.{Rules}
use Rattle.scale.specs.Laws.{Plain}
use Rattle.theory.specs.Problem.{Problem, Sound, put, size, at, entry}
use Rattle.theory.specs.Cut.{Weighs}
use Rattle.theory.specs.KeptBy.{Rule, straight, bounded}
use Rattle.theory.proofs.Related.{Leq, leq_of_eq, leq_chain}
use Rattle.theory.proofs.Extremes.{highest_below, lowest_below}
use Rattle.rules.specs.Figures.{Figures, planned}
use Rattle.rules.specs.Report.{Working, Reports}
use Rattle.rules.specs.Guarantees.{Guaranteed}
use Rattle.rules.proofs.Guarantees.{removed_neutral}
use Rattle.calls.specs.State.{Standing, State, Call, Answer}
use Rattle.calls.specs.Step.{Runs, Begins}
use Rattle.calls.proofs.Promised.{stays_within, report_of_tables}
use Rattle.shipped.specs.Plain.{Change}

module _ {E : Type 0} (R : Rules E) (L : Plain R) where
  -- The ceiling is the tree value joined with the removed weight, and our plan's score where no link was removed.
  pub record Summed (rule : Rule) (figures : Figures E) : Type 0 where
    pub ceiling_is : figures.ceiling ≡ R.join figures.tree figures.removed
    pub reached : rule ≡ straight → figures.score ≡ figures.ceiling

  module _ (P : Problem) (sound : Sound P) {figures : Figures E} where
    straight_reached : (w : Working R P straight) → Reports R P w figures → Guaranteed R P straight figures → figures.score ≡ figures.ceiling
    straight_reached w r g = L.antisym _ _
        (leq_chain R L (leq_of_eq R L g.scored) (g.at_most_ceiling (planned figures.plan) g.valid))
        (leq_chain R L (leq_of_eq R L (r.ceiling_is ∙ ap (R.join figures.tree) (removed_neutral R L P sound w r) ∙ L.unit figures.tree)) g.not_below_tree)

    summed : (rule : Rule) (w : Working R P rule) → Reports R P w figures → Guaranteed R P rule figures → Summed rule figures
    summed straight w r g = record { ceiling_is = r.ceiling_is; reached = λ e. straight_reached w r g }
    summed bounded w r g = record { ceiling_is = r.ceiling_is; reached = λ e. let z : ◌≡◌ {A = ℕ} 0 1 = cc in absurd (omega arith) }

  pub reported : (start : State E) (calls : List (Call × Answer E)) (state : State E) → Begins R start → Runs R start calls state →
      {standing : Standing E} → state.report ≡ Some standing → Guaranteed R state.problem standing.rule standing.figures → Summed standing.rule standing.figures
  reported start calls state begins runs {standing} is g =
      let (stores, solved) = report_of_tables R start calls state begins runs standing is in
      summed state.problem (stays_within R start calls state begins runs).sound standing.rule solved.working solved.reports g

  -- Where gaps are differences, a link's weight is the most by which one entry passes another.
  module _ (less : E → E → E) (gap_is : (a b : E) → Leq R b a → R.gap a b ≡ less a b)
      (less_mono : (a a' b b' : E) → Leq R a a' → Leq R b' b → Leq R (less a b) (less a' b')) (P : Problem) (sound : Sound P) where
    module _ {f p : ℕ} where
      abbrev pub first_entry : Change P f p → E
      first_entry c = entry R P f (put c.plan (at P f p) c.first)

      abbrev pub second_entry : Change P f p → E
      second_entry c = entry R P f (put c.plan (at P f p) c.second)

    module _ (f p : ℕ) (w : E) (g : Weighs R P f p w) where
      pub attained : (c : Change P f p) × (less (first_entry c) (second_entry c) ≡ w)
      attained =
          let s = g.attained in
          let (x, below, is) = s.highest.attained in
          let (x', below', is') = s.lowest.attained in
          let falls : Leq R s.low s.high = leq_chain R L (leq_of_eq R L (sym is')) (s.highest.bound x' below') in (
            record { plan = s.others; valid = s.valid; first = x; second = x'; first_value = below; second_value = below' },
            ap₂ less is is' ∙ sym (gap_is s.high s.low falls) ∙ s.is,
          )

      pub most : (c : Change P f p) → Leq R (less (first_entry c) (second_entry c)) w
      most c =
          let along = λ (x : ℕ). entry R P f (put c.plan (at P f p) x) in
          let (high, highest) = highest_below R L (size P (at P f p)) along (omega (arith, c.first_value)) in
          let (low, lowest) = lowest_below R L (size P (at P f p)) along (omega (arith, c.first_value)) in
          let (x, below, is) = lowest.attained in
          let falls : Leq R low high = leq_chain R L (leq_of_eq R L (sym is)) (highest.bound x below) in
          leq_chain R L
          (less_mono _ high _ low (highest.bound c.first c.first_value) (lowest.bound c.second c.second_value))
          (leq_chain R L (leq_of_eq R L (sym (gap_is high low falls)))
          (g.bound (R.gap high low) (record { others = c.plan; valid = c.valid; high = high; low = low; highest = highest; lowest = lowest; is = refl })))
