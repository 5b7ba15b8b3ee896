-- The rule leaves no choice of weights and kept links. Assumes nothing.
use Rattle.std.proofs.Common.{◌≡◌, ℕ, ◌/◌, ◌%◌, Bool, sym, refl, ◌∙◌, subst, ⊎_elim, arith}
use mathlib.Core.Path.{fun_ext}
use Rattle.std.proofs.lemmas.Bool.{ltb-true, cases_Bool}
use Rattle.scale.specs.Rules.{Rules}
use Rattle.scale.specs.Laws.{Plain}
use Rattle.theory.specs.Problem.{Problem, Sound, arity}
use Rattle.theory.specs.Links.{is_link}
use Rattle.theory.specs.Cut.{Weighs}
use Rattle.theory.specs.KeptBy.{Rule, straight, bounded, KeptBy}
use Rattle.theory.specs.Bounded.{Bounded}
use Rattle.theory.proofs.Orders.{before_order}
use Rattle.theory.proofs.Kept.{kept_unique}
use Rattle.theory.proofs.Weighed.{graph_whole}
use Rattle.theory.proofs.LinkNumbers.{link_own, link_known}

module _ {E : Type 0} (R : Rules E) (L : Plain R) (P : Problem) where
  pub weighs_once : (f p : ℕ) (w w' : E) → Weighs R P f p w → Weighs R P f p w' → w ≡ w'
  weighs_once f p w w' a b = L.antisym w w' (b.bound w a.attained) (a.bound w' b.attained)

  module _ (sound : Sound P) where
    bounded_weights : (w w' : ℕ → E) (k k' : ℕ → Bool) → Bounded R P w k → Bounded R P w' k' → w ≡ w'
    bounded_weights w w' k k' b b' = fun_ext (λ n. ⊎_elim
        (λ there.
        let place = ltb-true (n % 4) (arity P (n / 4)) there in
        let known = link_known P n there in
        subst (λ (i : ℕ). w i ≡ w' i) (link_own n) (weighs_once (n / 4) (n % 4) _ _ (b.weights (n / 4) (n % 4) known place) (b'.weights (n / 4) (n % 4) known place)))
        (λ none. b.unweighed n none ∙ sym (b'.unweighed n none))
        (cases_Bool (is_link P n)))

    bounded_kept : (w : ℕ → E) (k k' : ℕ → Bool) → Bounded R P w k → Bounded R P w k' → k ≡ k'
    bounded_kept w k k' b b' = fun_ext (λ n. ⊎_elim
        (λ there.
        let known = link_known P n there in
        kept_unique (graph_whole P sound) (before_order L w) k k' b.keeps b'.keeps n (record { below = omega arith; there = there; chosen = refl }))
        (λ none. b.unkept n none ∙ sym (b'.unkept n none))
        (cases_Bool (is_link P n)))

    pub weights_once : (rule : Rule) (w w' : ℕ → E) (k k' : ℕ → Bool) → KeptBy R P w k rule → KeptBy R P w' k' rule → w ≡ w'
    weights_once straight w w' k k' s s' = fun_ext (λ n. s.unweighed n ∙ sym (s'.unweighed n))
    weights_once bounded w w' k k' b b' = bounded_weights w w' k k' b b'

    pub kept_once : (rule : Rule) (w w' : ℕ → E) (k k' : ℕ → Bool) → KeptBy R P w k rule → KeptBy R P w' k' rule → k ≡ k'
    kept_once straight w w' k k' s s' = fun_ext (λ n. s.all_kept n ∙ sym (s'.all_kept n))
    kept_once bounded w w' k k' b b' = bounded_kept w k k' b (subst (λ (v : ℕ → E). Bounded R P v k') (sym (bounded_weights w w' k k' b b')) b')
