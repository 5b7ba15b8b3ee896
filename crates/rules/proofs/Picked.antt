-- The plan of a report is one that the messages lead to. Assumes nothing.
use Rattle.std.proofs.Common.{◌≡◌, ℕ, ◌<◌, ◌⊎◌, Some, sym, ap, ◌∙◌, subst, ap₂, inl, inr}
use Rattle.scale.specs.Rules.{Rules}
use Rattle.scale.specs.Laws.{Plain}
use Rattle.theory.specs.Problem.{Problem, Plan, Valid, Sound, size, variables, functions, at}
use Rattle.theory.specs.Cut.{Agrees}
use Rattle.theory.specs.KeptBy.{Rule}
use Rattle.theory.specs.Forest.{above, hangs}
use Rattle.theory.specs.Messages.{Picked, from_variables}
use Rattle.theory.proofs.Joins.{joins_cong, when_cong}
use Rattle.theory.proofs.Descent.{above_known, from_roots}
use Rattle.theory.proofs.Hangs.{hangs_from, root_test}
use Rattle.theory.proofs.CutTables.{cut_settled}
use Rattle.rules.specs.Report.{Working, Chosen, Reaches}

module _ {E : Type 0} (R : Rules E) (L : Plain R) (P : Problem) (sound : Sound P) {rule : Rule} (w : Working R P rule) (y : Plan)
    (chosen : Chosen R P w.kept w.hanging w.cut w.messages w.takes y) where
  pub plan_valid : Valid P y
  plan_valid = from_roots P sound w.kept w.hanging w.hung (λ v. y v < size P v)
      (λ v k e. chosen.fits v k (root_test (w.hanging.var_parent v) e))
      (λ v f k e up. subst (λ (x : ℕ). x < size P v) (sym (chosen.below v f k e)) ((w.taken f (y (above P w.hanging f)) (w.hung.var_known v f k e) up).reaches.valid v k))

  module _ (f : ℕ) (k : f < functions P) where
    abbrev up : ℕ
    up = y (above P w.hanging f)

    abbrev way : Plan
    way = w.takes f up

    abbrev reaches : Reaches R P w.kept w.hanging w.cut w.messages f up way
    reaches = (w.taken f up k (plan_valid (above P w.hanging f) (above_known P sound w.kept w.hanging w.hung f k))).reaches

    way_agrees : Agrees P w.kept f y way
    way_agrees p place keeps = by_link (w.hung.each_link f p k place keeps)
      where
        by_link : (p ≡ w.hanging.fun_parent f) ⊎ (w.hanging.var_parent (at P f p) ≡ Some f) → way (at P f p) ≡ y (at P f p)
        by_link (inl e) = subst (λ (i : ℕ). way (at P f i) ≡ y (at P f i)) (sym e) reaches.here
        by_link (inr e) = sym (chosen.below (at P f p) f (sound.known f p k place) e)

    plan_reaches : R.join (w.cut f y) (from_variables R P w.hanging w.messages.q f y) ≡ w.messages.r f up
    plan_reaches =
        ap₂ R.join
        (cut_settled R L P w.kept w.is_cut f y way k plan_valid reaches.valid way_agrees)
        (joins_cong R (variables P) (λ u i. when_cong R (hangs (w.hanging.var_parent u) f) (λ e. ap (w.messages.q u) (chosen.below u f i (hangs_from (w.hanging.var_parent u) f e)))))
        ∙ reaches.reached

  pub plan_picked : Picked R P w.hanging w.cut w.messages y
  plan_picked = record { valid = plan_valid; roots = chosen.highest; reached = plan_reaches }
