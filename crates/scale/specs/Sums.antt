-- The machine's sums and differences of values that are few entries joined. Assumes nothing.
use Rattle.std.specs.Prelude.{◌≡◌, ℕ, ◌+◌, ◌≤◌, ℤ, pos, negsuc, ◌+ℤ◌, ◌-ℤ◌, FitsSigned}
use Rattle.std.proofs.Common.{◌∙◌, arith}
use Rattle.std.proofs.lemmas.Int.{ints}
use Rattle.std.proofs.lemmas.Int.{int_wrap_fits, wrapping_add_is, wrapping_sub_is}
use Rattle.std.specs.Int.{w32, int_wrapping_add, int_wrapping_sub, saturate_to_bits}
use Rattle.scale.specs.Points.{Span}
use Rattle.scale.specs.Whole.{saturated_is}

pub wider : (p q : ℕ) (z : ℤ) → p ≤ q → Span p z → Span q z
wider p q z h s = record { low = omega (arith, ints, s.low); high = omega (arith, ints, s.high) }

-- such values fit the machine's range
fits_signed : (most : ℕ) (z : ℤ) → most ≤ 2147483647 → Span most z → FitsSigned w32 z
fits_signed most (pos n) fits s = record { sfits = omega (arith, ints, s.high) }
fits_signed most (negsuc n) fits s = record { sfits = omega (arith, ints, s.low) }

uncut : (most : ℕ) (z r : ℤ) → most ≤ 2147483647 → Span most z → r ≡ saturate_to_bits 31 z → (r ≡ z) × Span most r
uncut most z r fits s e =
    let same : r ≡ z = e ∙ saturated_is z (omega (arith, ints, s.low)) (omega (arith, ints, s.high)) in
    (same, rw same s)

module _ (p q most : ℕ) (a b r : ℤ) (sa : Span p a) (sb : Span q b) (few : p + q ≤ most) (fits : most ≤ 2147483647) where
  sum_spans : Span most (a +ℤ b)
  sum_spans = record { low = omega (arith, ints, sa.low, sb.low); high = omega (arith, ints, sa.high, sb.high) }

  gap_spans : Span most (a -ℤ b)
  gap_spans = record { low = omega (arith, ints, sa.low, sb.high); high = omega (arith, ints, sa.high, sb.low) }

  -- cut where they pass the machine's range
  pub summed : r ≡ saturate_to_bits 31 (a +ℤ b) → (r ≡ a +ℤ b) × Span most r
  summed = uncut most _ r fits sum_spans

  pub gapped : r ≡ saturate_to_bits 31 (a -ℤ b) → (r ≡ a -ℤ b) × Span most r
  gapped = uncut most _ r fits gap_spans

  -- and wrapped there
  pub summed_wrapped : r ≡ int_wrapping_add w32 a b → (r ≡ a +ℤ b) × Span most r
  summed_wrapped e =
      let same : r ≡ a +ℤ b =
      e ∙ wrapping_add_is w32 a b (fits_signed p a (omega arith) sa) (fits_signed q b (omega arith) sb) ∙ int_wrap_fits w32 (a +ℤ b) (fits_signed most (a +ℤ b) fits sum_spans) in
      (same, rw same sum_spans)

  pub gapped_wrapped : r ≡ int_wrapping_sub w32 a b → (r ≡ a -ℤ b) × Span most r
  gapped_wrapped e =
      let same : r ≡ a -ℤ b =
      e ∙ wrapping_sub_is w32 a b (fits_signed p a (omega arith) sa) (fits_signed q b (omega arith) sb) ∙ int_wrap_fits w32 (a -ℤ b) (fits_signed most (a -ℤ b) fits gap_spans) in
      (same, rw same gap_spans)
