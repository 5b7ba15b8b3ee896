-- The set bits of the words of links. Assumes nothing.
use Rattle.std.proofs.Common.{◌≡◌, ℕ, zero, suc, ◌+◌, ◌*◌, ◌/◌, ◌%◌, ◌^◌, ◌<◌, ◌≤◌, cond, eqb, List, length, get_or, take, sym, refl, ap, ◌∙◌, add-suc, pow-suc, arith}
use native.Mathlib.Nat.{div-div-eq-div-mul}
use lib.Count.{ones, ones_step, ones-le}
use Rattle.std.specs.List.{sum_by}
use Rattle.std.proofs.Math.Seq.{take-length}
use Rattle.std.proofs.lemmas.List.Sums.{sum_by_more}
use Rattle.std.proofs.lemmas.Bool.Decides.{nat_tests}
use Rattle.theory.specs.Joins.{count_below}
use Rattle.theory.specs.Kept.{bit, kept_at}

-- how many of the k lowest bits of w are set
unfoldable bits_in : ℕ → ℕ → ℕ
bits_in w zero = 0
bits_in w (suc k) = bits_in w k + bit w k

ones_up : (w k : ℕ) → ones w ≡ bits_in w k + ones (w / 2 ^ k)
unfolding bits_in
ones_up w zero = let e : ones w ≡ ones (w / 1) = ap ones (omega arith) in omega (arith, e)
ones_up w (suc k) =
    let e = ones_up w k in
    let s = ones_step (w / 2 ^ k) in
    let d : w / 2 ^ k / 2 ≡ w / 2 ^ suc k = div-div-eq-div-mul w (2 ^ k) 2 ∙ ap (λ n. w / n) (sym (pow-suc 2 k)) in
    omega (arith, e, s, ap ones d)

ones_word : (w : ℕ) → w < 2 ^ 64 → ones w ≡ bits_in w 64
ones_word w h = let z : ones (w / 2 ^ 64) ≤ 0 = ones-le 0 (w / 2 ^ 64) (omega arith) in omega (arith, ones_up w 64, z)

flag : (x : ℕ) → cond (eqb (x % 2) 1) 1 0 ≡ x % 2
flag x = grind (arith, nat_tests)

kept_word : (ws : List ℕ) (j i : ℕ) → i ≤ 64 → count_below (kept_at ws) (64 * j + i) ≡ count_below (kept_at ws) (64 * j) + bits_in (get_or ws j 0) i
unfolding count_below bits_in
kept_word ws j zero h = let e : 64 * j + 0 ≡ 64 * j = omega arith in omega (arith, ap (count_below (kept_at ws)) e)
kept_word ws j (suc i) h =
    let n = 64 * j + i in
    let q : n / 64 ≡ j = omega arith in
    let r : n % 64 ≡ i = omega arith in
    let e : count_below (kept_at ws) (64 * j + suc i) ≡ count_below (kept_at ws) n + cond (kept_at ws n) 1 0 = ap (count_below (kept_at ws)) (add-suc (64 * j) i) in
    let b : cond (kept_at ws n) 1 0 ≡ bit (get_or ws j 0) i = rw (q, r) (flag (get_or ws j 0 / 2 ^ i)) in
    omega (arith, e, b, kept_word ws j i (omega arith))

-- the links of one word more
kept_next : (ws : List ℕ) (j : ℕ) → get_or ws j 0 < 2 ^ 64 → count_below (kept_at ws) (64 * suc j) ≡ count_below (kept_at ws) (64 * j) + ones (get_or ws j 0)
kept_next ws j h =
    let e : 64 * suc j ≡ 64 * j + 64 = omega arith in
    ap (count_below (kept_at ws)) e ∙ kept_word ws j 64 (omega arith) ∙ ap (λ n. count_below (kept_at ws) (64 * j) + n) (sym (ones_word (get_or ws j 0) h))

kept_words : (ws : List ℕ) → ((j : ℕ) → get_or ws j 0 < 2 ^ 64) → (i : ℕ) → i ≤ length ws → sum_by ones (take i ws) ≡ count_below (kept_at ws) (64 * i)
unfolding count_below
kept_words ws small zero h = refl
kept_words ws small (suc i) h =
    let next : suc i ≡ i + 1 = omega arith in
    ap (λ n. sum_by ones (take n ws)) next ∙ sum_by_more ones ws i 0 (omega arith) ∙ ap (λ n. n + ones (get_or ws i 0)) (kept_words ws small i (omega arith)) ∙ sym (kept_next ws i (small i))

-- the links of all words
pub kept_all : (ws : List ℕ) → ((j : ℕ) → get_or ws j 0 < 2 ^ 64) → sum_by ones ws ≡ count_below (kept_at ws) (64 * length ws)
kept_all ws small = ap (sum_by ones) (sym (take-length ws)) ∙ kept_words ws small (length ws) (omega arith)
