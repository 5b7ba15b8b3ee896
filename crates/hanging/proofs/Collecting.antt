-- The functions around each variable, collected link by link. Assumes nothing.
use Rattle.std.proofs.Common.{◌≡◌, ℕ, zero, suc, ◌+◌, ◌/◌, ◌<◌, Bool, true, false, ◌||◌, ◌==◌, List, length, set, replicate, sym, refl, ap, ◌∙◌, subst, ⊎_elim, arith, length-set, get_or-set_other, get_or-set_same}
use Rattle.std.proofs.lemmas.Bool.{both_ways, cases_eq, eq-eqb, eqb-true, or_cases, or_left, or_right}
use Rattle.std.proofs.lemmas.Nat.Bits.{bit_at-zero}
use Rattle.layout.specs.declared.layout.Layout.{Layout}
use Rattle.layout.proofs.Shapes.{few_variables}
use Rattle.forest.specs.FactorGraph.{layout_graph}
use Rattle.hanging.specs.declared.function_set.FunctionSet.{FunctionSet}
use Rattle.hanging.specs.FunctionSet.{in_set}
use Rattle.hanging.specs.Kept.{Kept, Linked}
use Rattle.hanging.specs.Around.{no_functions, around, Around}
use Rattle.hanging.proofs.Turns.{left_known}

empty_each : (x : FunctionSet) → ((f : ℕ) → in_set x f ≡ false) → (n v f : ℕ) → around (replicate n x) v f ≡ false
empty_each x none zero v f = ap (λ b. b == 1) (bit_at-zero f)
empty_each x none (suc n) zero f = none f
empty_each x none (suc n) (suc v) f = empty_each x none n v f

module _ (l : Layout) (K : ℕ → Bool) where
  -- The sets have the functions that the first i links join, if kept.
  pub record Collected (sets : List FunctionSet) (i : ℕ) : Type 0 where
    pub sized : length sets ≡ 64
    pub from : (v f : ℕ) → around sets v f ≡ true → Linked l K v f
    pub all : (v f : ℕ) (k : Linked l K v f) → k.link < i → around sets v f ≡ true

  pub collected_none : (x : FunctionSet) → ((f : ℕ) → in_set x f ≡ false) → Collected (replicate 64 x) 0
  collected_none x none = record {
    sized = refl;
    from = λ v f h. absurd (both_ways (around (replicate 64 x) v f) (empty_each x none 64 v f) h);
    all = λ v f k lt. absurd (omega arith);
  }

  module _ {sets : List FunctionSet} (i : ℕ) (inv : Collected sets i) where
    -- the link is not kept
    pub collected_same : (Kept l K i → ⊥) → Collected sets (i + 1)
    collected_same loose = record {
      sized = inv.sized;
      from = inv.from;
      all = λ v f k lt. ⊎_elim
          (λ (same : k.link ≡ i). absurd (loose (subst (Kept l K) same k.kept)))
          (λ other. inv.all v f k (omega arith))
          (cases_eq k.link i);
    }

    -- it is kept
    module _ (v : ℕ) (kept : Kept l K i) (end : (layout_graph l).left i ≡ v) (more : FunctionSet) (adds : (g : ℕ) → in_set more g ≡ (g == i / 4 || around sets v g)) where
      here : (g : ℕ) → around (set sets v more) v g ≡ (g == i / 4 || around sets v g)
      here g =
          let lt : v < length sets = omega (arith, left_known l K i kept, end, few_variables l, inv.sized) in
          ap (λ x. in_set x g) (get_or-set_same sets v more no_functions lt) ∙ adds g

      there : (w g : ℕ) → (w ≡ v → ⊥) → around (set sets v more) w g ≡ around sets w g
      there w g ne = ap (λ x. in_set x g) (get_or-set_other sets v w more no_functions ne)

      own : (g : ℕ) → around (set sets v more) v g ≡ true → Linked l K v g
      own g h = ⊎_elim
          (λ e. record { link = i; kept = kept; variable = end; function = sym (eqb-true g (i / 4) e) })
          (inv.from v g)
          (or_cases (g == i / 4) (around sets v g) (sym (here g) ∙ h))

      still : (w g : ℕ) → around sets w g ≡ true → around (set sets v more) w g ≡ true
      still w g h = ⊎_elim
          (λ same. subst (λ x. around (set sets v more) x g ≡ true) (sym same) (here g ∙ or_right (g == i / 4) (around sets v g) (subst (λ x. around sets x g ≡ true) same h)))
          (λ other. there w g other ∙ h)
          (cases_eq w v)

      last : (w g : ℕ) (k : Linked l K w g) → k.link ≡ i → around (set sets v more) w g ≡ true
      last w g k same =
          let is : w ≡ v = sym k.variable ∙ ap (λ n. (layout_graph l).left n) same ∙ end in
          let e = eq-eqb g (i / 4) (sym k.function ∙ ap (λ n. n / 4) same) in
          subst (λ x. around (set sets v more) x g ≡ true) (sym is) (here g ∙ or_left (g == i / 4) (around sets v g) e)

      pub collected_more : Collected (set sets v more) (i + 1)
      collected_more = record {
        sized = simp length-set inv.sized;
        from = λ w g h. ⊎_elim
            (λ same. subst (λ x. Linked l K x g) (sym same) (own g (subst (λ x. around (set sets v more) x g ≡ true) same h)))
            (λ other. inv.from w g (sym (there w g other) ∙ h))
            (cases_eq w v);
        all = λ w g k lt. ⊎_elim (last w g k) (λ other. still w g (inv.all w g k (omega arith))) (cases_eq k.link i);
      }

  pub all_collected : {sets : List FunctionSet} (i : ℕ) → i ≡ (layout_graph l).links → Collected sets i → Around l K sets
  all_collected i end inv = λ v f. (inv.from v f, λ k. inv.all v f k (omega (arith, k.kept.below)))
