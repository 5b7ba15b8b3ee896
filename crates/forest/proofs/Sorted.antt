-- Links kept along an order that a strict test gives. Assumes nothing.
use Rattle.std.proofs.Common.{◌≡◌, ℕ, ◌<◌, Bool, true, false, ◌&&◌, ◌↔◌, List, length, get_or, sym, refl, ap, ◌∙◌, subst, ⊎_elim}
use Rattle.std.proofs.lemmas.Bool.{cases_Bool, cases_order, and_parts, and_from}
use Rattle.theory.specs.Graphs.{Graph, Joined}
use Rattle.theory.proofs.Walks.{joined_within}
use Rattle.theory.proofs.Orders.{Order}
use Rattle.theory.proofs.Kept.{Kept_by}
use Rattle.forest.specs.Along.{earlier, KeptAlong, Complete, Ordered}
use Rattle.forest.proofs.Along.{stands}

module _ (G : Graph) {first : ℕ → ℕ → Bool} (strict : Order first) (order : List ℕ) (complete : Complete G order) (sorted : Ordered first order) where
  -- What stands before a position is first, and so stands nowhere else.
  ahead : (i m : ℕ) → i < length order → earlier order i m ≡ true → first m (get_or order i 0) ≡ true
  ahead i m h e = let at = (stands order i m).0 e in rw at.2 at (sorted at.0 i at.1 h)

  once : (i : ℕ) → i < length order → earlier order i (get_or order i 0) ≡ false
  once i h = ⊎_elim (λ e. absurd (strict.apart _ _ (ahead i (get_or order i 0) h e) refl)) (λ e. e) (cases_Bool (earlier order i (get_or order i 0)))

  -- A present link that is first stands before.
  behind : (i m : ℕ) → i < length order → m < G.links → G.present m ≡ true → first m (get_or order i 0) ≡ true → earlier order i m ≡ true
  behind i m h below there e =
      let at = complete m below there in
      ⊎_elim
      (λ (q : at.0 ≡ i). absurd (strict.apart m (get_or order i 0) e (sym at.2 ∙ ap (λ k. get_or order k 0) q)))
      (⊎_elim
      (λ (lt : at.0 < i). (stands order i m).1 (at.0, lt, at.2))
      (λ (gt : i < at.0). absurd (strict.apart m m (strict.chain m (get_or order i 0) m e (rw at.2 at (sorted i at.0 gt at.1))) refl)))
      (cases_order at.0 i)

  pub kept_by_order : (K : ℕ → Bool) → KeptAlong G order K → Kept_by G first K
  kept_by_order K kept n below there =
      let at = complete n below there in
      let i = at.0 in
      subst (λ x. (K x ≡ true) ↔ (Joined G (λ m. K m && first m x) (G.left x) (G.right x) → ⊥)) at.2 (by_position i at.1 (rw at.2 there))
    where
      by_position : (i : ℕ) → i < length order → G.present (get_or order i 0) ≡ true →
          (K (get_or order i 0) ≡ true) ↔ (Joined G (λ m. K m && first m (get_or order i 0)) (G.left (get_or order i 0)) (G.right (get_or order i 0)) → ⊥)
      by_position i h here =
          let fair = kept.each i h here (once i h) in (
            λ e walk. fair.0 e (joined_within (λ m v.
                let in_both = and_parts (K m) (first m (get_or order i 0)) v.chosen in
                and_from (K m) (earlier order i m) in_both.0 (behind i m h v.below v.there in_both.1)) walk),
            λ apart. fair.1 (λ walk. apart (joined_within (λ m v.
                let in_both = and_parts (K m) (earlier order i m) v.chosen in
                and_from (K m) (first m (get_or order i 0)) in_both.0 (ahead i m h in_both.1)) walk)),
          )
