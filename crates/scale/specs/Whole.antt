-- Facts of the order and the sum of ℤ that the laws of the scales need. Assumes nothing.
use Rattle.std.specs.Prelude.{◌≡◌, ◌≤◌, true, false, ℤ, pos, negsuc, ◌+ℤ◌, ◌-ℤ◌, ◌≤ℤ◌, ◌<ℤ◌, int_le}
use Rattle.std.proofs.Common.{ap, inl, inr, ⊎_elim, arith}
use Rattle.std.proofs.lemmas.Bool.{cases_Bool}
use Rattle.std.proofs.lemmas.Int.{ints}
use Rattle.std.specs.Int.{saturate_to_bits}
use Rattle.scale.specs.Laws.{PlainLaws, GapLaws, Strictness}
use Rattle.scale.specs.Points.{points_gap}

-- The test of the order says the same as the order, both ways.
pub leZ_in : (a b : ℤ) → int_le a b ≡ true → a ≤ℤ b
leZ_in a b h = grind (arith, ints)

pub leZ_out : (a b : ℤ) → a ≤ℤ b → int_le a b ≡ true
leZ_out a b h = grind (arith, ints)

pub leZ_not : (a b : ℤ) → int_le a b ≡ false → b <ℤ a
leZ_not a b h = grind (arith, ints)

pub leZ_lt : (a b : ℤ) → b <ℤ a → int_le a b ≡ false
leZ_lt a b h = grind (arith, ints)

-- what fits is not cut
pub saturated_is : (z : ℤ) → negsuc 2147483647 ≤ℤ z → z ≤ℤ pos 2147483647 → saturate_to_bits 31 z ≡ z
saturated_is (pos n) l h = let k : n ≤ 2147483647 = omega (arith, ints) in ap pos (omega arith)
saturated_is (negsuc n) l h = let k : n ≤ 2147483647 = omega (arith, ints) in ap negsuc (omega arith)

pub whole_laws : PlainLaws int_le ◌+ℤ◌ (pos 0)
whole_laws = record {
  total = λ a b. ⊎_elim inl (λ h. inr (grind (arith, ints))) (cases_Bool (int_le a b));
  trans = λ a b c h k. grind (arith, ints);
  antisym = λ a b h k. grind (arith, ints);
  comm = λ a b. omega (arith, ints);
  assoc = λ a b c. omega (arith, ints);
  unit = λ a. omega (arith, ints);
  mono = λ a b c h. grind (arith, ints);
}

pub whole_strict : Strictness int_le ◌+ℤ◌
whole_strict a b c h = grind (arith, ints)

pub back : (a b : ℤ) → b +ℤ (a -ℤ b) ≡ a
back a b = omega (arith, ints)

pub whole_gaps : GapLaws int_le ◌+ℤ◌ (pos 0) points_gap
whole_gaps = record {
  covers = λ a b h. rw h (rw (back a b) (grind (arith, ints)));
  rises = λ a b. grind (arith, ints);
  none = λ a b h. rw h;
}
