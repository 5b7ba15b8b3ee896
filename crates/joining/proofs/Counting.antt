-- Joins of counts. Assumes nothing.
use Rattle.std.proofs.Common.{◌≡◌, ℕ, zero, suc, ◌+◌, ◌*◌, ◌<◌, ◌≤◌, Bool, true, ◌⊎◌, refl, ap, inl, inr, ⊎_elim, suc-mul, arith}
use Rattle.std.proofs.lemmas.Bool.{cases_eq, cases_lt, le-leb, leb-true}
use Rattle.scale.specs.Laws.{Plain}
use Rattle.theory.specs.Joins.{joins, when}
use Rattle.joining.specs.Counts.{counts}

pub counts_laws : Plain counts
counts_laws = record {
  total = λ a b. ⊎_elim (λ h. inl (le-leb a b (omega arith))) (λ h. inr (le-leb b a h)) (cases_lt a b);
  trans = λ a b c h k. le-leb a c (omega (arith, leb-true a b h, leb-true b c k));
  antisym = λ a b h k. omega (arith, leb-true a b h, leb-true b a k);
  comm = λ a b. omega arith;
  assoc = λ a b c. omega arith;
  unit = λ a. omega arith;
  mono = λ a b c h. le-leb (b + c) (a + c) (omega (arith, leb-true b a h));
}

pub joins_mono : (k l : ℕ) (g : ℕ → ℕ) → k ≤ l → joins counts k g ≤ joins counts l g
unfolding joins
joins_mono k zero g h = let none : k ≡ 0 = omega arith in omega (arith, ap (λ (n : ℕ). joins counts n g) none)
joins_mono k (suc l) g h = by_end (λ before. joins_mono k l g before) (cases_eq k (suc l))
  where
    by_end : (k ≤ l → joins counts k g ≤ joins counts l g) → (k ≡ suc l) ⊎ (k ≡ suc l → ⊥) → joins counts k g ≤ joins counts l g + g l
    by_end rest (inl e) = omega (arith, ap (λ (n : ℕ). joins counts n g) e)
    by_end rest (inr ne) = omega (arith, rest (omega arith))

-- a join of k counts of at most m each
pub joins_bound : (k m : ℕ) (g : ℕ → ℕ) → ((i : ℕ) → i < k → g i ≤ m) → joins counts k g ≤ k * m
unfolding joins
joins_bound zero m g each = omega arith
joins_bound (suc k) m g each = omega (arith, joins_bound k m g (λ i h. each i (omega arith)), each k (omega arith), suc-mul k m)

-- each member is at most the join
joins_member : (k i : ℕ) (g : ℕ → ℕ) → i < k → g i ≤ joins counts k g
unfolding joins
joins_member k i g h = omega (arith, joins_mono (suc i) k g (omega arith))

-- the same of a member that passes its test
pub passing_member : (k i : ℕ) (test : ℕ → Bool) (g : ℕ → ℕ) → i < k → test i ≡ true → g i ≤ joins counts k (λ j. when counts (test j) (g j))
passing_member k i test g h e = omega (arith, joins_member k i (λ j. when counts (test j) (g j)) h, ap (λ (b : Bool). when counts b (g i)) e)

pub joins_ones : (k : ℕ) → joins counts k (λ i. 1) ≡ k
unfolding joins
joins_ones zero = refl
joins_ones (suc k) = omega (arith, joins_ones k)
