-- The lowest value at which a message is highest, as its entries are seen one by one. Assumes nothing.
use Rattle.std.proofs.Common.{◌≡◌, ℕ, ◌+◌, ◌*◌, ◌<◌, ◌≤◌, true, false, List, length, take, drop, get_or, sym, ap, ◌∙◌, subst, ap₂, inl, inr, ⊎_elim, arith}
use Rattle.std.proofs.lemmas.Bool.{both_ways, cases_Bool, cases_eq}
use Rattle.std.proofs.lemmas.List.{get_or_default, get_or-take, get_or-drop, length-take-le, length-drop}
use Rattle.scale.specs.Rules.{Rules}
use Rattle.scale.specs.Laws.{Plain}
use Rattle.theory.proofs.Related.{leq_refl}
use Rattle.messages.specs.Sent.{variable_cell}
use Rattle.picking.specs.Steps.{LowestHighest, LowestBest}

module _ {V E : Type 0} (R : Rules E) (means : V → E) (message : List V) where
  abbrev entry : ℕ → V → E
  entry x d = means (get_or message x d)

  -- x is the lowest of the first n values at which the message is highest, and 0 where n is 0
  pub record LowestSoFar (n x : ℕ) : Type 0 where
    pub fits : x < length message
    pub highest : (z : ℕ) (d : V) → z < n → R.leq (entry z d) (entry x d) ≡ true
    pub lowest : (z : ℕ) (d : V) → z < x → R.leq (entry x d) (entry z d) ≡ false

  pub none_seen : 1 ≤ length message → LowestSoFar 0 0
  none_seen some = record { fits = omega arith; highest = λ z d h. absurd (omega arith); lowest = λ z d h. absurd (omega arith) }

  -- one value more, by the entries of the best so far and of the new one
  module _ (L : Plain R) (n best : ℕ) (so_far : LowestSoFar n best) (high new : V)
      (high_is : high ≡ get_or message best high) (new_is : new ≡ get_or message n new) (inside : n < length message) where
    test_is : (d : V) → R.leq (means new) (means high) ≡ R.leq (entry n d) (entry best d)
    test_is d =
        ap₂ (λ (x y : V). R.leq (means x) (means y))
        (new_is ∙ get_or_default message n new d inside)
        (high_is ∙ get_or_default message best high d so_far.fits)

    above : (m : ℕ) (d : V) → R.leq (entry best d) (entry m d) ≡ true → R.leq (entry n d) (entry m d) ≡ true → (z : ℕ) → z < n + 1 → R.leq (entry z d) (entry m d) ≡ true
    above m d before here z h = elim (cases_eq z n) [
      | inl e ↦ subst (λ (x : ℕ). R.leq (entry x d) (entry m d) ≡ true) (sym e) here
      | inr e ↦ L.trans (entry z d) (entry best d) (entry m d) (so_far.highest z d (omega arith)) before
    ]

    pub best_held : R.leq (means new) (means high) ≡ true → LowestSoFar (n + 1) best
    best_held e = record {
      fits = so_far.fits;
      highest = λ z d h. above best d (leq_refl R L (entry best d)) (sym (test_is d) ∙ e) z h;
      lowest = so_far.lowest;
    }

    pub best_raised : R.leq (means new) (means high) ≡ false → LowestSoFar (n + 1) n
    best_raised e = record {
      fits = inside;
      highest = λ z d h.
          let low = sym (test_is d) ∙ e in
          let up : R.leq (entry best d) (entry n d) ≡ true = ⊎_elim (λ h. absurd (both_ways (R.leq (entry n d) (entry best d)) low h)) (λ h. h) (L.total (entry n d) (entry best d)) in
          above n d up (leq_refl R L (entry n d)) z h;
      lowest = λ z d h.
          let low = sym (test_is d) ∙ e in
          ⊎_elim
          (λ t. absurd (both_ways (R.leq (entry n d) (entry best d)) low (L.trans (entry n d) (entry z d) (entry best d) t (so_far.highest z d h))))
          (λ t. t)
          (cases_Bool (R.leq (entry n d) (entry z d)));
    }

-- The first n entries of the row of the variable v: they are its cells.
module _ {V : Type 0} (cells row : List V) (v n : ℕ) (row_is : row ≡ take 16 (drop (16 * v) cells)) (few : n ≤ 16) where
  pub row_length : 16 * v + 16 ≤ length cells → length (take n row) ≡ n
  row_length whole =
      length-take-le n row (omega (arith, ap length row_is, length-take-le 16 (drop (16 * v) cells) (omega (arith, length-drop (16 * v) cells))))

  row_entry : (z : ℕ) (d : V) → z < n → get_or (take n row) z d ≡ get_or cells (variable_cell v z) d
  row_entry z d h =
      get_or-take n row z d h
      ∙ ap (λ (xs : List V). get_or xs z d) row_is
      ∙ get_or-take 16 (drop (16 * v) cells) z d (omega arith)
      ∙ get_or-drop (16 * v) cells z d

  pub lowest_in_row : {E : Type 0} (R : Rules E) (means : V → E) (x : ℕ) → 16 * v + 16 ≤ length cells → LowestHighest R means (take n row) x → LowestBest R means cells v n x
  lowest_in_row R means x whole lowest =
      let long = row_length whole in
      let fits : x < n = omega (arith, lowest.fits) in
      let test = λ (y z : ℕ) (d : V) (h : y < n) (k : z < n). ap₂ (λ (a b : V). R.leq (means a) (means b)) (row_entry y d h) (row_entry z d k) in
      record {
        fits = fits;
        highest = λ z d h. sym (test z x d h fits) ∙ lowest.highest z d (omega arith);
        lowest = λ z d h. sym (test x z d fits (omega arith)) ∙ lowest.lowest z d h;
      }
