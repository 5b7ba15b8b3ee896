-- Two numbers for each cell, written cell by cell. Assumes nothing.
use Rattle.std.proofs.Common.{◌≡◌, ◌≢◌, ℕ, ◌+◌, ◌*◌, ◌<◌, List, length, get_or, set, sym, ap, ◌∙◌, inl, inr, arith, get_or-set_other, get_or-set_same}
use Rattle.std.proofs.Math.IntN.{ℤ, pos}
use Rattle.std.proofs.lemmas.Bool.{cases_eq}
use Rattle.std.proofs.lemmas.List.{length-set}

-- the cells below n show what f gives
pub record ShownBelow (f : ℕ → ℤ × ℤ) (n : ℕ) (shown : List ℤ) : Type 0 where
  pub first : (k : ℕ) → k < n → get_or shown (2 * k) (pos 0) ≡ (f k).0
  pub second : (k : ℕ) → k < n → get_or shown (2 * k + 1) (pos 0) ≡ (f k).1

-- one cell more
module _ (f : ℕ → ℤ × ℤ) (n : ℕ) (shown : List ℤ) (a b : ℤ) (room : 2 * n + 1 < length shown) (same : (a, b) ≡ f n) (before : ShownBelow f n shown) where
  -- what is written elsewhere
  earlier : (i : ℕ) → i ≢ 2 * n → i ≢ 2 * n + 1 → get_or (set (set shown (2 * n) a) (2 * n + 1) b) i (pos 0) ≡ get_or shown i (pos 0)
  earlier i other next = get_or-set_other (set shown (2 * n) a) (2 * n + 1) i b (pos 0) next ∙ get_or-set_other shown (2 * n) i a (pos 0) other

  here_first : get_or (set (set shown (2 * n) a) (2 * n + 1) b) (2 * n) (pos 0) ≡ a
  here_first = get_or-set_other (set shown (2 * n) a) (2 * n + 1) (2 * n) b (pos 0) (λ same. omega arith) ∙ get_or-set_same shown (2 * n) a (pos 0) (omega arith)

  here_second : get_or (set (set shown (2 * n) a) (2 * n + 1) b) (2 * n + 1) (pos 0) ≡ b
  here_second = get_or-set_same (set shown (2 * n) a) (2 * n + 1) b (pos 0) (omega (arith, length-set shown (2 * n) a))

  pub shown_more : ShownBelow f (n + 1) (set (set shown (2 * n) a) (2 * n + 1) b)
  shown_more = record {
    first = λ k h. elim (cases_eq k n) [
      | inl at ↦ ap (λ (j : ℕ). get_or (set (set shown (2 * n) a) (2 * n + 1) b) (2 * j) (pos 0)) at ∙ here_first ∙ ap (λ p. p.0) same ∙ ap (λ (j : ℕ). (f j).0) (sym at)
      | inr other ↦ earlier (2 * k) (λ same. omega arith) (λ same. omega arith) ∙ before.first k (omega arith)
    ];
    second = λ k h. elim (cases_eq k n) [
      | inl at ↦ ap (λ (j : ℕ). get_or (set (set shown (2 * n) a) (2 * n + 1) b) (2 * j + 1) (pos 0)) at ∙ here_second ∙ ap (λ p. p.1) same ∙ ap (λ (j : ℕ). (f j).1) (sym at)
      | inr other ↦ earlier (2 * k + 1) (λ same. omega arith) (λ same. omega arith) ∙ before.second k (omega arith)
    ];
  }
