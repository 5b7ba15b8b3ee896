-- The cut table of a function that no link is removed from: its table. Assumes nothing.
use Rattle.std.proofs.Common.{◌≡◌, ℕ, ◌<◌, true, List, [], ◌∷◌, length, get_or, refl, sym, ap, ◌∙◌, subst, arith}
use Rattle.std.proofs.lemmas.List.{get_or_default}
use Rattle.scale.specs.Rules.{Rules}
use Rattle.scale.specs.Laws.{Plain}
use Rattle.theory.specs.Problem.{product, index}
use Rattle.theory.proofs.Powers.{leq_refl}
use Rattle.messages.specs.declared.places.Places.{Places}
use Rattle.messages.specs.Combinations.{combination, cleared}
use Rattle.messages.specs.Places.{count_in, place_in, sizes_in, cut_index, CutWords}
use Rattle.messages.proofs.Combining.{combination_within, index_combination, within_length, cleared_same}
use Rattle.messages.proofs.PlaceSizes.{sizes_length}

cleared_none : (xs : List ℕ) → cleared (λ p. true) xs ≡ xs
cleared_none [] = refl
cleared_none (x ∷ xs) = ap (◌∷◌ x) (cleared_none xs)

module _ (s : Places) (all : (p : ℕ) → p < count_in s → (place_in s p).kept ≡ true) where
  own_index : (j : ℕ) → j < product (sizes_in s) → cut_index s j ≡ j
  own_index j h =
      let xs = combination (sizes_in s) j in
      let long = within_length (sizes_in s) xs (combination_within (sizes_in s) j h) in
      let wide = sizes_length s in
      ap (index (sizes_in s)) (cleared_same (λ p. (place_in s p).kept) (λ p. true) xs (λ p k. all p (omega arith)) ∙ cleared_none xs) ∙ index_combination (sizes_in s) j h

  pub whole_table : {E : Type 0} (R : Rules E) (L : Plain R) (table : List ℕ) → length table ≡ product (sizes_in s) → CutWords R s table table
  whole_table R L table full k low own d =
      let here : R.reads (get_or table k 0) ≡ R.reads (get_or table k d) = ap R.reads (get_or_default table k 0 d low) in
      record {
        attained = (k, (low, own), here);
        bound = λ j (h, e).
            let same : j ≡ k = sym (own_index j (omega (arith, full))) ∙ e in
            subst (λ (i : ℕ). R.leq (R.reads (get_or table k d)) (R.reads (get_or table i 0)) ≡ true) (sym same)
            (subst (λ a. R.leq a (R.reads (get_or table k 0)) ≡ true) here (leq_refl L (R.reads (get_or table k 0))));
      }
