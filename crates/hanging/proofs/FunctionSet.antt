-- One function more in a set, and its first taken out. Assumes nothing.
use Rattle.std.proofs.Common.{◌≡◌, ℕ, ◌*◌, ◌%◌, ◌^◌, ◌<◌, ◌||◌, ◌==◌, ◌≢◌, eqb, sym, ap, ◌∙◌, inl, inr, ⊎_elim, w64, arith}
use Rattle.std.specs.Prelude.{bit_and, bit_or}
use Rattle.std.specs.Int.{bit_at, bit_not, trailing_zeros}
use Rattle.std.proofs.lemmas.Bool.{cases_eq}
use Rattle.std.proofs.lemmas.Bool.Decides.{eqb_tells}
use Rattle.std.proofs.lemmas.Nat.{and_le_l}
use Rattle.std.proofs.lemmas.Nat.Bits.{bit_at_set_same, bit_at_set_other, bit_at_clear_same, bit_at_clear_other, bit_at-trailing_zeros}
use Rattle.hanging.specs.FunctionSet.{in_set, First}

module _ (w f : ℕ) (small : f < 64) where
  pub inserted : (g : ℕ) → in_set (record { word = bit_or w ((1 * 2 ^ f) % 18446744073709551616) }) g ≡ (g == f || in_set (record { word = w }) g)
  inserted g = elim (eqb_tells g f) [
    | inl same ↦ ap (λ x. eqb x 1) (ap (bit_at _) same.1 ∙ bit_at_set_same w64 w f small) ∙ sym (ap (λ b. b || eqb (bit_at w g) 1) same.0)
    | inr other ↦ ap (λ x. eqb x 1) (bit_at_set_other w64 w f small g other.1) ∙ sym (ap (λ b. b || eqb (bit_at w g) 1) other.0)
  ]

-- the lowest bit of a word that is not 0 is cleared
pub first_out : (w : ℕ) → 0 < w → w < 2 ^ 64 →
    let f = trailing_zeros w64 w in
    First (record { word = w }) f (record { word = bit_and w (bit_not w64 ((1 * 2 ^ f) % 2 ^ 64)) })
first_out w some fits =
    let f = trailing_zeros w64 w in
    let rest = bit_and w (bit_not w64 ((1 * 2 ^ f) % 2 ^ 64)) in
    let (within, set, below) = bit_at-trailing_zeros w64 w some fits in
    let gone : bit_at rest f ≡ 0 = bit_at_clear_same w64 w f within in
    record {
      within = within;
      was = ap (λ x. eqb x 1) set;
      lowest = λ g lt. ap (λ x. eqb x 1) (below g lt);
      gone = ap (λ x. eqb x 1) gone;
      others = λ g lt ne. ap (λ x. eqb x 1) (bit_at_clear_other w64 w f within g lt ne);
      less = ⊎_elim
          (λ (same : rest ≡ w). absurd (let both : bit_at rest f ≡ bit_at w f = ap (λ x. bit_at x f) same in omega arith))
          (λ (other : rest ≢ w). omega (arith, and_le_l w (bit_not w64 ((1 * 2 ^ f) % 2 ^ 64))))
          (cases_eq rest w);
    }
