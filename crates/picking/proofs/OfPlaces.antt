-- What the variables below a function are given, from the function's places to the problem. Assumes nothing.
use Rattle.std.proofs.Common.{◌≡◌, ℕ, ◌<◌, List, get_or, take, Some, sym, ap, ◌∙◌, subst, ap₂, arith}
use Rattle.std.proofs.lemmas.List.{get_or-take}
use Rattle.theory.specs.Problem.{Problem, Sound, variables, functions, size, arity, at, product}
use Rattle.theory.specs.Forest.{Hanging}
use Rattle.theory.proofs.Hangs.{hangs_from, hangs_test}
use Rattle.rules.specs.Figures.{planned}
use Rattle.tables.proofs.Ordered.{within_sizes}
use Rattle.messages.specs.declared.rooted.RootedForest.{RootedForest}
use Rattle.messages.specs.Rooted.{Rooted, problem_in, kept_in, hanging_in}
use Rattle.messages.specs.declared.place.Place.{Place}
use Rattle.messages.specs.declared.places.Places.{Places}
use Rattle.messages.specs.Combinations.{combination, sizes_at}
use Rattle.messages.specs.Places.{PlacesOf, count_in, place_in, sizes_in}
use Rattle.messages.specs.Positions.{value_at}
use Rattle.messages.specs.Sent.{choice_cell}
use Rattle.messages.proofs.OfPlaces.{sizes_are, parent_is}
use Rattle.picking.specs.Steps.{ValueAt, Handed, BelowGiven, chosen_at}

module _ (r : RootedForest) (f : ℕ) (known : f < functions (problem_in r)) (s : Places) (of : PlacesOf (problem_in r) (kept_in r) (hanging_in r) f s) where
  abbrev P : Problem
  P = problem_in r

  abbrev H : Hanging
  H = hanging_in r

  sound : Sound P
  sound = (within_sizes r.tables.now).sound

  pub distinct_places : (p q : ℕ) → p < q → q < count_in s → (place_in s p).variable ≡ (place_in s q).variable → ⊥
  distinct_places p q less h e =
      let count = of.count in
      let variable = λ (x : Place). x.variable in
      let same = sound.distinct f p q known (omega arith) (omega arith) (sym (ap variable (of.each p (omega arith))) ∙ e ∙ ap variable (of.each q (omega arith))) in
      omega arith

  module _ (rooted : Rooted r) where
    module _ (choices values before after : List ℕ)
        (taken : get_or choices (choice_cell f (planned before (place_in s s.parent).variable)) 0 < product (sizes_in s) →
        take (count_in s) values ≡ combination (sizes_in s) (get_or choices (choice_cell f (planned before (place_in s s.parent).variable)) 0))
        (fits : (p : ℕ) → p < count_in s → get_or values p 0 < (place_in s p).size)
        (handed : Handed s values (count_in s) before after) where
      -- a variable that hangs from f has the value of its place
      from_place : (v p : ℕ) → H.var_parent v ≡ Some f → p < arity P f → at P f p ≡ v → planned after v ≡ get_or values p 0
      from_place v p hung h here =
          let count = of.count in
          let is = of.each p h in
          let variable = ap (λ (x : Place). x.variable) is ∙ here in
          ap (planned after) (sym variable)
          ∙ handed.given p (omega arith) (ap (λ (x : Place). x.below) is ∙ hangs_test (H.var_parent (at P f p)) f (ap H.var_parent here ∙ hung))

      -- at the position that f takes
      from_position : (p : ℕ) → p < arity P f → chosen_at P H choices before f < product (sizes_at P f) → get_or values p 0 ≡ value_at P f (chosen_at P H choices before f) p
      from_position p h inside =
          let count = of.count in
          let position = λ (v : ℕ). get_or choices (choice_cell f (planned before v)) 0 in
          let low = subst (λ (sizes : List ℕ). position (place_in s s.parent).variable < product sizes) (sym (sizes_are P (kept_in r) H f s of)) (subst (λ (v : ℕ). position v < product (sizes_at P f)) (sym (parent_is P (kept_in r) H f s of known rooted.well)) inside) in
          sym (get_or-take (count_in s) values p 0 (omega arith))
          ∙ ap (λ (xs : List ℕ). get_or xs p 0) (taken low)
          ∙ ap₂ (λ (sizes : List ℕ) (v : ℕ). get_or (combination sizes (position v)) p 0) (sizes_are P (kept_in r) H f s of) (parent_is P (kept_in r) H f s of known rooted.well)

      value_given : (v : ℕ) → v < variables P → H.var_parent v ≡ Some f → ValueAt P f (chosen_at P H choices before f) v (planned after v)
      value_given v k hung =
          let (p, h, here, is-kept) = rooted.well.var_kept v f k hung in
          let count = of.count in
          record {
            fits =
                subst (λ (x : ℕ). x < size P v) (sym (from_place v p hung h here))
                (subst (λ (n : ℕ). get_or values p 0 < n) (ap (λ (x : Place). x.size) (of.each p h) ∙ ap (size P) here) (fits p (omega arith)));
            stands = λ q inside there low. from_place v q hung inside there ∙ from_position q inside low;
          }

      pub below_given : BelowGiven P H choices f before after
      below_given = record {
        below = value_given;
        others = λ u free. handed.others u (λ p h below e.
            let inside : p < arity P f = omega (arith, of.count) in
            let is = of.each p inside in
            let here = sym (ap (λ (x : Place). x.variable) is) ∙ e in
            free (
              subst (λ (v : ℕ). v < variables P) here (sound.known f p known inside),
              ap H.var_parent (sym here) ∙ hangs_from (H.var_parent (at P f p)) f (sym (ap (λ (x : Place). x.below) is) ∙ below),
            ));
      }
