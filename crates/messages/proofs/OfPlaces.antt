-- The places of a function, by the problem. Assumes nothing.
use Rattle.std.proofs.Common.{◌≡◌, ℕ, suc, ◌%◌, ◌<◌, Bool, List, [], ◌∷◌, length, get_or, sym, refl, ap, ◌∙◌, arith}
use Rattle.std.proofs.lemmas.List.{ext_get_or, get_or-map, length-map}
use Rattle.scale.specs.Rules.{Rules}
use Rattle.theory.specs.Joins.{when}
use Rattle.theory.specs.Problem.{Problem, functions, size, arity, at, scope_of, product, index}
use Rattle.theory.specs.Forest.{Hanging, WellHung, above}
use Rattle.theory.specs.Links.{link}
use Rattle.theory.proofs.Joins.{joins_cong}
use Rattle.messages.specs.declared.place.Place.{Place}
use Rattle.messages.specs.declared.places.Places.{Places}
use Rattle.messages.specs.Combinations.{combination, cleared, sizes_at, cut_position}
use Rattle.messages.specs.Places.{PlacesOf, count_in, place_in, sizes_in, cut_index}
use Rattle.messages.specs.Positions.{from_below}
use Rattle.messages.specs.Upward.{upward}
use Rattle.messages.proofs.Combining.{cleared_same}
use Rattle.messages.proofs.PlaceSizes.{sizes_length, size_is}

combination_length : (sizes : List ℕ) (i : ℕ) → length (combination sizes i) ≡ length sizes
combination_length [] i = refl
combination_length (s ∷ sizes) i = ap suc (combination_length sizes (i % product sizes))

module _ (P : Problem) (kept : ℕ → Bool) (H : Hanging) (f : ℕ) (s : Places) (of : PlacesOf P kept H f s) where
  pub sizes_are : sizes_in s ≡ sizes_at P f
  unfolding at
  sizes_are =
      let long = sizes_length s in
      let count = of.count in
      let wide = length-map (scope_of P f) (size P) in
      ext_get_or 0 (sizes_in s) (sizes_at P f) (omega arith) (λ p h.
      size_is s p (omega arith)
      ∙ ap (λ (x : Place). x.size) (of.each p (omega arith))
      ∙ sym (get_or-map (size P) (scope_of P f) p 0 0 (omega arith)))

  pub cut_index_is : (i : ℕ) → cut_index s i ≡ cut_position P kept f i
  cut_index_is i =
      let long = combination_length (sizes_in s) i in
      let wide = sizes_length s in
      let count = of.count in
      ap (index (sizes_in s)) (cleared_same (λ p. (place_in s p).kept) (λ p. kept (link f p)) (combination (sizes_in s) i) (λ p h. ap (λ (x : Place). x.kept) (of.each p (omega arith))))
      ∙ ap (λ (sizes : List ℕ). index sizes (cleared (λ p. kept (link f p)) (combination sizes i))) sizes_are

  pub upward_is : {E : Type 0} (R : Rules E) (q : ℕ → ℕ → E) (xs : List ℕ) → upward R s q xs (count_in s) ≡ from_below R P H q f xs
  upward_is R q xs =
      ap (upward R s q xs) of.count
      ∙ joins_cong R (arity P f) (λ p h. ap (λ (x : Place). when R x.below (q x.variable (get_or xs p 0))) (of.each p h))

  module _ (known : f < functions P) (well : WellHung P kept H) where
    pub parent_place : s.parent < count_in s
    parent_place = omega (arith, of.parent, of.count, well.fun_place f known)

    pub parent_is : (place_in s s.parent).variable ≡ above P H f
    parent_is = ap (λ (x : Place). x.variable) (of.each s.parent (omega (arith, parent_place, of.count))) ∙ ap (at P f) of.parent

    pub parent_size : (place_in s s.parent).size ≡ size P (above P H f)
    parent_size = ap (λ (x : Place). x.size) (of.each s.parent (omega (arith, parent_place, of.count))) ∙ ap (λ (p : ℕ). size P (at P f p)) of.parent
