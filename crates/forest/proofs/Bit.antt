-- One bit of a word. Assumes nothing.
use Rattle.std.proofs.Common.{◌≡◌, ℕ, zero, suc, ◌+◌, ◌-◌, ◌*◌, ◌/◌, ◌%◌, ◌^◌, ◌<◌, Bool, true, false, cond, ◌||◌, eqb, ◌≢◌, List, length, get_or, set, sym, refl, ap, ◌∙◌, inl, inr, ⊎_elim, pow-suc, arith, get_or-set_other, get_or-set_same}
use native.Mathlib.Nat.{div-eq_of_lt, div_self}
use lib.Bits.{bit_or}
use Rattle.std.proofs.lemmas.Nat.{or_shr, or_mod, pow_pos, pow-add, pow_below, shl-shr, one_shl}
use Rattle.std.proofs.lemmas.Bool.{cases_eq, cases_lt}
use Rattle.std.proofs.lemmas.Grind.{get_or-set_at}
use Rattle.std.proofs.lemmas.List.{get_or_past, length-set}
use Rattle.std.proofs.lemmas.Bool.Decides.{eqb_tells, leb_tells}
use Rattle.theory.specs.Kept.{bit, kept_at}

-- a number below 2 ^ i has no bit i
high : (w i : ℕ) → w < 2 ^ i → bit w i ≡ 0
high w i h = ap (λ n. n % 2) (div-eq_of_lt h)

low : (d i : ℕ) → bit (2 ^ (suc d + i)) i ≡ 0
low d i = ap (λ n. n / 2 ^ i % 2) (pow-add 2 (suc d) i) ∙ ap (λ n. n % 2) (shl-shr (2 ^ suc d) i) ∙ omega (arith, pow-suc 2 d)

-- 2 ^ k has the bit k, and no other
bit_power : (k i : ℕ) → bit (2 ^ k) i ≡ cond (eqb i k) 1 0
bit_power k i =
    ⊎_elim
    (λ p. ap (λ j. bit (2 ^ k) j) p.1 ∙ ap (λ n. n % 2) (div_self (pow_pos k)) ∙ sym (ap (λ b. cond b 1 0) p.0))
    (λ p.
    let none : cond (eqb i k) 1 0 ≡ 0 = ap (λ b. cond b 1 0) p.0 in
    ⊎_elim
    (λ q.
    let at : suc (k - i - 1) + i ≡ k = omega (arith, q.1) in
    ap (λ j. bit (2 ^ j) i) (sym at) ∙ low (k - i - 1) i ∙ sym none)
    (λ q.
    let lt : k < i = omega (arith, q.1, p.1) in
    high (2 ^ k) i (pow_below k i lt) ∙ sym none)
    (leb_tells (suc i) k))
    (eqb_tells i k)

bit_or_lem : (a b i : ℕ) → bit (bit_or a b) i ≡ bit_or (bit a i) (bit b i)
bit_or_lem a b i = ap (λ n. n % 2) (or_shr a b i) ∙ or_mod (a / 2 ^ i) (b / 2 ^ i) 1

-- a bit, by its two values
two : (P : ℕ → Type 0) (x : ℕ) → x < 2 → P 0 → P 1 → P x
two P zero h a b = a
two P (suc zero) h a b = b
two P (suc (suc x)) h a b = absurd (omega arith)

joined : (x : ℕ) (b : Bool) → x < 2 → eqb (bit_or x (cond b 1 0)) 1 ≡ (b || eqb x 1)
joined x true h = two (λ y. eqb (bit_or y 1) 1 ≡ true) x h refl refl
joined x false h = two (λ y. eqb (bit_or y 0) 1 ≡ eqb y 1) x h refl refl

-- The word of a link.
module _ (ws : List ℕ) (link n : ℕ) (lt : link / 64 < length ws) where
  mask : (1 * 2 ^ (link % 64)) % 18446744073709551616 ≡ 2 ^ (link % 64)
  mask = one_shl (link % 64) 64 (omega arith)

  -- another word
  apart : (w : ℕ) → n / 64 ≢ link / 64 → kept_at (set ws (link / 64) w) n ≡ kept_at ws n
  apart w ne = ap (λ x. eqb (bit x (n % 64)) 1) (get_or-set_other ws (link / 64) (n / 64) w 0 ne)

  other : n / 64 ≢ link / 64 → eqb n link ≡ false
  other ne = ⊎_elim (λ p. absurd (ne (ap (λ m. m / 64) p.1))) (λ p. p.0) (eqb_tells n link)

  same_place : n / 64 ≡ link / 64 → eqb (n % 64) (link % 64) ≡ eqb n link
  same_place e =
      ⊎_elim
      (λ p. ⊎_elim (λ q. p.0 ∙ sym q.0) (λ q. absurd (q.1 (omega (arith, e, p.1)))) (eqb_tells n link))
      (λ p. ⊎_elim (λ q. absurd (p.1 (ap (λ m. m % 64) q.1))) (λ q. p.0 ∙ sym q.0) (eqb_tells n link))
      (eqb_tells (n % 64) (link % 64))

  -- the same word
  here : (w : ℕ) → n / 64 ≡ link / 64 → kept_at (set ws (link / 64) w) n ≡ eqb (bit w (n % 64)) 1
  here w e = ap (λ x. eqb (bit x (n % 64)) 1) (ap (λ j. get_or (set ws (link / 64) w) j 0) e ∙ get_or-set_same ws (link / 64) w 0 lt)

  pub kept_or : kept_at (set ws (link / 64) (bit_or (get_or ws (link / 64) 0) ((1 * 2 ^ (link % 64)) % 18446744073709551616))) n ≡ (eqb n link || kept_at ws n)
  kept_or =
      let w = get_or ws (link / 64) 0 in
      let i = n % 64 in
      let k = link % 64 in
      ⊎_elim
      (λ p.
      let e = p.1 in
      here _ e ∙ ap (λ m. eqb (bit (bit_or w m) i) 1) mask ∙ ap (λ x. eqb x 1) (bit_or_lem w (2 ^ k) i) ∙ ap (λ x. eqb (bit_or (bit w i) x) 1) (bit_power k i)
      ∙ joined (bit w i) (eqb i k) (omega arith) ∙ ap (λ b. b || eqb (bit w i) 1) (same_place e) ∙ ap (λ j. eqb n link || eqb (bit (get_or ws j 0) i) 1) (sym e))
      (λ p. apart _ p.1 ∙ sym (ap (λ b. b || kept_at ws n) (other p.1)))
      (eqb_tells (n / 64) (link / 64))

-- Where words and a new word fit in 64 bits, they still do when it is written.
pub word_fits : (ws : List ℕ) (i w k : ℕ) → ((j : ℕ) → get_or ws j 0 < 2 ^ 64) → w < 2 ^ 64 → get_or (set ws i w) k 0 < 2 ^ 64
word_fits ws i w k fit h = elim (cases_eq k i) [
  | inl same ↦ elim (cases_lt k (length ws)) [
    | inl low ↦ let here = get_or-set_at ws i k w 0 same (omega arith) in omega (arith, here)
    | inr past ↦ let long = length-set ws i w in omega (arith, get_or_past (set ws i w) k 0 (omega arith), h)
  ]
  | inr other ↦ omega (arith, get_or-set_other ws i k w 0 other, fit k)
]
