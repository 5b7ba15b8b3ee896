-- Values handed to variables: to those below a function place by place, and to a root. Assumes nothing.
use Rattle.std.proofs.Common.{◌≡◌, ℕ, ◌+◌, ◌<◌, true, false, List, length, get_or, set, sym, refl, ap, ◌∙◌, subst, inl, inr, arith}
use Rattle.std.proofs.lemmas.List.{get_or-set_same, get_or-set_other}
use Rattle.std.proofs.lemmas.Bool.{both_ways, cases_eq}
use Rattle.scale.specs.Rules.{Rules}
use Rattle.theory.specs.Problem.{Problem, size}
use Rattle.theory.specs.Forest.{Hanging, is_root}
use Rattle.rules.specs.Figures.{planned}
use Rattle.messages.specs.declared.places.Places.{Places}
use Rattle.messages.specs.Places.{place_in}
use Rattle.picking.specs.Steps.{Handed, LowestBest, RootGiven}

module _ (s : Places) (values before : List ℕ) where
  pub none_handed : Handed s values 0 before before
  none_handed = record { given = λ p h. absurd (omega arith); others = λ v h. refl }

  module _ (p : ℕ) (after : List ℕ) (so_far : Handed s values p before after) where
    pub handed_skip : (place_in s p).below ≡ false → Handed s values (p + 1) before after
    handed_skip apart = record {
      given = λ q h below. elim (cases_eq q p) [
        | inl e ↦ absurd (both_ways (place_in s q).below (ap (λ (i : ℕ). (place_in s i).below) e ∙ apart) below)
        | inr d ↦ so_far.given q (omega arith) below
      ];
      others = λ v free. so_far.others v (λ q h. free q (omega arith));
    }

    -- the place p hands on its value, where no earlier place has its variable
    pub handed_more : (place_in s p).below ≡ true → (place_in s p).variable < length after → ((q : ℕ) → q < p → (place_in s q).variable ≡ (place_in s p).variable → ⊥) →
        Handed s values (p + 1) before (set after (place_in s p).variable (get_or values p 0))
    handed_more hangs inside distinct =
        let v = (place_in s p).variable in
        let x = get_or values p 0 in
        record {
          given = λ q h below. elim (cases_eq q p) [
            | inl e ↦ ap (λ (i : ℕ). planned (set after v x) (place_in s i).variable) e ∙ get_or-set_same after v x 0 inside ∙ ap (λ (i : ℕ). get_or values i 0) (sym e)
            | inr d ↦ get_or-set_other after v (place_in s q).variable x 0 (distinct q (omega arith)) ∙ so_far.given q (omega arith) below
          ];
          others = λ u free.
              get_or-set_other after v u x 0 (λ e. free p (omega arith) hangs (sym e)) ∙ so_far.others u (λ q h. free q (omega arith));
        }

-- A root that gets its value.
pub root_given : {V E : Type 0} (R : Rules E) (means : V → E) (P : Problem) (H : Hanging) (cells : List V) (v x : ℕ) (plan : List ℕ) →
    v < length plan → is_root H v ≡ true → LowestBest R means cells v (size P v) x → RootGiven R means P H cells v plan (set plan v x)
root_given R means P H cells v x plan inside root best = record {
  root = λ e. subst (LowestBest R means cells v (size P v)) (sym (get_or-set_same plan v x 0 inside)) best;
  others = λ u free. get_or-set_other plan v u x 0 (λ e. free (e, root));
}
