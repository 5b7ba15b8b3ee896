-- The pair worked through. Assumes nothing.
use Rattle.std.proofs.Common.{int_le, ◌≡◌, ℕ, ◌+◌, ◌*◌, ◌<◌, ◌≤◌, true, List, [], ◌∷◌, length, get_or, ℤ, pos, refl, arith}
use Rattle.scale.specs.Points.{points, points_reads}
use Rattle.scale.specs.Whole.{whole_laws}
use Rattle.theory.specs.Problem.{Plan, Valid, Sound, put, size, at, scope_of, entry, position}
use Rattle.theory.specs.Cut.{Weighs}
use Rattle.worked.specs.Table.{pair, PairWeights}
use Rattle.worked.proofs.TwoByTwo.{two, weighs_two, high, low}

pub pair_sound : Sound pair
unfolding size at scope_of
pair_sound = record {
  nonempty = two (λ v. 1 ≤ size pair v) (omega arith) (omega arith);
  some_place = two (λ f. 1 ≤ length (scope_of pair f)) (omega arith) (omega arith);
  four_places = two (λ f. length (scope_of pair f) ≤ 4) (omega arith) (omega arith);
  known = λ f p k h. two (λ f. (p : ℕ) → p < length (scope_of pair f) → at pair f p < 2) (two (λ p. at pair 0 p < 2) (omega arith) (omega arith)) (two (λ p. at pair 1 p < 2) (omega arith) (omega arith)) f k p h;
  distinct = λ f p q k h i e. two (λ f. (p : ℕ) → p < length (scope_of pair f) → (q : ℕ) → q < length (scope_of pair f) → at pair f p ≡ at pair f q → p ≡ q)
      (two (λ p. (q : ℕ) → q < 2 → at pair 0 p ≡ at pair 0 q → p ≡ q) (two (λ q. 0 ≡ at pair 0 q → 0 ≡ q) (λ d. d) (λ d. d)) (two (λ q. 1 ≡ at pair 0 q → 1 ≡ q) (λ d. d) (λ d. d)))
      (two (λ p. (q : ℕ) → q < 2 → at pair 1 p ≡ at pair 1 q → p ≡ q) (two (λ q. 0 ≡ at pair 1 q → 0 ≡ q) (λ d. d) (λ d. d)) (two (λ q. 1 ≡ at pair 1 q → 1 ≡ q) (λ d. d) (λ d. d)))
      f k p h q i e;
  full = two _ refl refl;
}

pub valid_one : (y : Plan) → Valid pair y → (y 0 < 2) × (y 1 < 2)
unfolding size
valid_one y valid = (valid 0 (omega arith), valid 1 (omega arith))

pub same_plan : (c : ℕ) → c < 2 → Valid pair (λ _. c)
unfolding size
same_plan c h = two (λ v. c < size pair v) h h

-- what stands in a table at the values a and b
abbrev pub told : List ℕ → ℕ → ℕ → ℤ
told words a b = points_reads (get_or words (a * 2 + (b * 1 + 0)) 0)

abbrev pub table_0 : List ℕ
table_0 = 0 ∷ 4 ∷ 1 ∷ 2 ∷ []

abbrev pub table_1 : List ℕ
table_1 = 3 ∷ 0 ∷ 0 ∷ 5 ∷ []

-- a link weighs the most that the gap comes to at the two values of the other variable
module _ (f p u : ℕ) (T : ℕ → ℕ → ℤ) (along : (y : Plan) (x : ℕ) → entry points pair f (put y (at pair f p) x) ≡ T x (y u)) (size-here : size pair (at pair f p) ≡ 2) where
  abbrev swing : ℕ → ℤ
  swing c = points.gap (high points whole_laws pair f p u T along size-here c) (low points whole_laws pair f p u T along size-here c)

  link_weighs : (w : ℤ) (c : ℕ) → c < 2 → swing c ≡ w → int_le (swing 0) w ≡ true → int_le (swing 1) w ≡ true → ((z : Plan) → Valid pair z → z u < 2) → Weighs points pair f p w
  link_weighs w c k is first second fits =
      weighs_two points whole_laws pair f p u T along size-here w (λ _. c) (same_plan c k) is (λ z valid. two (λ x. int_le (swing x) w ≡ true) first second (z u) (fits z valid))

pub pair_weights : PairWeights
unfolding size at scope_of entry position
pair_weights = record {
  link_0 = link_weighs 0 0 1 (λ x c. told table_0 x c) (λ y x. refl) refl (pos 2) 1 (omega arith) refl refl refl (λ z valid. (valid_one z valid).1);
  link_1 = link_weighs 0 1 0 (λ x c. told table_0 c x) (λ y x. refl) refl (pos 4) 0 (omega arith) refl refl refl (λ z valid. (valid_one z valid).0);
  link_4 = link_weighs 1 0 1 (λ x c. told table_1 x c) (λ y x. refl) refl (pos 5) 1 (omega arith) refl refl refl (λ z valid. (valid_one z valid).1);
  link_5 = link_weighs 1 1 0 (λ x c. told table_1 c x) (λ y x. refl) refl (pos 5) 1 (omega arith) refl refl refl (λ z valid. (valid_one z valid).0);
}
