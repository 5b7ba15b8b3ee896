-- Lists and words made of what stands at each place. Assumes nothing.
use Rattle.std.proofs.Common.{◌≡◌, ℕ, zero, suc, ◌+◌, ◌*◌, ◌/◌, ◌%◌, ◌^◌, ◌<◌, ◌≤◌, Bool, true, false, cond, eqb, List, [], ◌∷◌, length, get_or, sym, refl, ap, ◌∙◌, subst, arith}
use native.Mathlib.Nat.{pow-succ'}
use Rattle.rules.specs.Figures.{Packed}
use Rattle.rules.proofs.Bits.{is_set, half_bit, first_bit}

-- g 0 up to g (n - 1)
pub listed : {A : Type 0} → ℕ → (ℕ → A) → List A
listed zero g = []
listed (suc n) g = g 0 ∷ listed n (λ i. g (suc i))

pub length_listed : {A : Type 0} (n : ℕ) (g : ℕ → A) → length (listed n g) ≡ n
unfolding listed
length_listed zero g = refl
length_listed (suc n) g = ap suc (length_listed n (λ i. g (suc i)))

pub getD_listed : {A : Type 0} (n : ℕ) (g : ℕ → A) (d : A) (i : ℕ) → i < n → get_or (listed n g) i d ≡ g i
unfolding listed
getD_listed zero g d i h = absurd (omega arith)
getD_listed (suc n) g d zero h = refl
getD_listed (suc n) g d (suc i) h = getD_listed n (λ j. g (suc j)) d i (omega arith)

-- the word of n bits
pack : ℕ → (ℕ → Bool) → ℕ
pack zero S = 0
pack (suc n) S = cond (S 0) 1 0 + 2 * pack n (λ b. S (suc b))

one_bit : (b : Bool) → cond b 1 0 ≤ 1
one_bit true = omega arith
one_bit false = omega arith

pack_small : (n : ℕ) (S : ℕ → Bool) → pack n S < 2 ^ n
unfolding pack
pack_small zero S = omega arith
pack_small (suc n) S =
    let double : 2 ^ suc n ≡ 2 * 2 ^ n = pow-succ' 2 n in
    let rest = pack_small n (λ b. S (suc b)) in
    let one = one_bit (S 0) in
    omega arith

told : (b : Bool) (k : ℕ) → eqb ((cond b 1 0 + 2 * k) % 2) 1 ≡ b
told true k = let e : (1 + 2 * k) % 2 ≡ 1 = omega arith in ap (λ (n : ℕ). eqb n 1) e
told false k = let e : (0 + 2 * k) % 2 ≡ 0 = omega arith in ap (λ (n : ℕ). eqb n 1) e

pack_bits : (n : ℕ) (S : ℕ → Bool) (b : ℕ) → b < n → is_set (pack n S) b ≡ S b
unfolding pack
pack_bits zero S b h = absurd (omega arith)
pack_bits (suc n) S zero h = first_bit (pack (suc n) S) ∙ told (S 0) (pack n (λ b. S (suc b)))
pack_bits (suc n) S (suc b) h =
    let one = one_bit (S 0) in
    let half : (cond (S 0) 1 0 + 2 * pack n (λ b. S (suc b))) / 2 ≡ pack n (λ b. S (suc b)) = omega arith in
    sym (half_bit (pack (suc n) S) b) ∙ ap (λ (w : ℕ). is_set w b) half ∙ pack_bits n (λ c. S (suc c)) b (omega arith)

pub some_packed : (S : ℕ → Bool) → (words : List ℕ) × Packed S words
some_packed S =
    let word : ℕ → ℕ = λ k. pack 64 (λ b. S (64 * k + b)) in (
      listed 4 word,
      record {
        four = length_listed 4 word;
        small = λ k h. subst (λ (w : ℕ). w < 2 ^ 64) (sym (getD_listed 4 word 0 k h)) (pack_small 64 (λ b. S (64 * k + b)));
        bits = λ n h.
            let own : 64 * (n / 64) + n % 64 ≡ n = omega arith in
            ap (λ (w : ℕ). is_set w (n % 64)) (getD_listed 4 word 0 (n / 64) (omega arith)) ∙ pack_bits 64 (λ b. S (64 * (n / 64) + b)) (n % 64) (omega arith) ∙ ap S own;
      },
    )
