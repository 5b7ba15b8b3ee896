-- A word that is made bit by bit. Assumes nothing.
use Rattle.std.proofs.Common.{◌≡◌, ℕ, ◌+◌, ◌*◌, ◌/◌, ◌%◌, ◌^◌, ◌<◌, ◌≤◌, true, false, eqb, bit_or, List, get_or, ap, ◌∙◌, refl, sym, inl, inr, w64, arith}
use Rattle.std.specs.Int.{bit_at}
use Rattle.std.proofs.lemmas.Bool.{cases_eq, eqb-true, eqb-false}
use Rattle.std.proofs.lemmas.Nat.Bits.{bit_at-lt, bit_at_set_same, bit_at_set_other, same_from_bits_below}
use Rattle.theory.specs.Kept.{kept_at}

-- w has the bits of x below i, and no other
pub record Begun (x i w : ℕ) : Type 0 where
  pub low : (b : ℕ) → b < i → bit_at w b ≡ bit_at x b
  pub high : (b : ℕ) → i ≤ b → bit_at w b ≡ 0

-- the next bit is one
pub begun_set : (x i w : ℕ) → i < 64 → Begun x i w → bit_at x i ≡ 1 → Begun x (i + 1) (bit_or w ((1 * 2 ^ i) % 18446744073709551616))
begun_set x i w h begun one = record {
  low = λ b lt. elim (cases_eq b i) [
    | inl same ↦ ap (λ (k : ℕ). bit_at (bit_or w ((1 * 2 ^ i) % 18446744073709551616)) k) same ∙ bit_at_set_same w64 w i h ∙ sym one ∙ ap (bit_at x) (sym same)
    | inr other ↦ bit_at_set_other w64 w i h b other ∙ begun.low b (omega arith)
  ];
  high = λ b le. bit_at_set_other w64 w i h b (λ same. omega arith) ∙ begun.high b (omega arith);
}

-- the next bit is zero
pub begun_clear : (x i w : ℕ) → Begun x i w → bit_at x i ≡ 0 → Begun x (i + 1) w
begun_clear x i w begun none = record {
  low = λ b lt. elim (cases_eq b i) [
    | inl same ↦ ap (bit_at w) same ∙ begun.high i (omega arith) ∙ sym none ∙ ap (bit_at x) (sym same)
    | inr other ↦ begun.low b (omega arith)
  ];
  high = λ b le. begun.high b (omega arith);
}

pub begun_all : (x w : ℕ) → x < 2 ^ 64 → w < 2 ^ 64 → Begun x 64 w → w ≡ x
begun_all x w h k begun = same_from_bits_below 64 w x k h begun.low

-- a bit of word k is one exactly if its link is kept
module _ (ws : List ℕ) (k b : ℕ) (few : b < 64) where
  one_bit : kept_at ws (64 * k + b) ≡ eqb (bit_at (get_or ws k 0) b) 1
  one_bit =
      let word : (64 * k + b) / 64 ≡ k = omega arith in
      let place : (64 * k + b) % 64 ≡ b = omega arith in
      rw (word, place) refl

  pub bit_set : kept_at ws (64 * k + b) ≡ true → bit_at (get_or ws k 0) b ≡ 1
  bit_set kept = eqb-true _ _ (sym one_bit ∙ kept)

  pub bit_clear : kept_at ws (64 * k + b) ≡ false → bit_at (get_or ws k 0) b ≡ 0
  bit_clear left = let other = eqb-false _ _ (sym one_bit ∙ left) in omega (arith, other, bit_at-lt (get_or ws k 0) b)
