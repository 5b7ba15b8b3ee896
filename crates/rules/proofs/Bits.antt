-- A word is known by its bits. Assumes nothing.
use Rattle.std.proofs.Common.{◌≡◌, ℕ, zero, suc, ◌+◌, ◌*◌, ◌/◌, ◌%◌, ◌^◌, ◌<◌, Bool, eqb, List, get_or, sym, ap, ◌∙◌, subst₂, ⊎_elim, arith}
use native.Mathlib.Nat.{pow-succ', div-div-eq-div-mul}
use Rattle.std.proofs.lemmas.Bool.{eqb-true, eqb-false, cases_Bool}
use Rattle.std.proofs.lemmas.List.{ext_get_or}
use Rattle.theory.specs.Kept.{bit}
use Rattle.rules.specs.Figures.{Packed}

-- whether bit b of a word is one
abbrev pub is_set : ℕ → ℕ → Bool
is_set w b = eqb (bit w b) 1

last_bit : (a b : ℕ) → a < 2 → b < 2 → eqb a 1 ≡ eqb b 1 → a ≡ b
last_bit a b h k e = ⊎_elim
    (λ t. let p : a ≡ 1 = eqb-true a 1 t in let q : b ≡ 1 = eqb-true b 1 (sym e ∙ t) in omega arith)
    (λ t. let p : a ≡ 1 → ⊥ = eqb-false a 1 t in let q : b ≡ 1 → ⊥ = eqb-false b 1 (sym e ∙ t) in omega arith)
    (cases_Bool (eqb a 1))

-- the bits of the half are the later ones
pub half_bit : (w b : ℕ) → is_set (w / 2) b ≡ is_set w (suc b)
half_bit w b = ap (λ (n : ℕ). eqb (n % 2) 1) (div-div-eq-div-mul w 2 (2 ^ b) ∙ ap (λ (n : ℕ). w / n) (sym (pow-succ' 2 b)))

pub first_bit : (w : ℕ) → is_set w 0 ≡ eqb (w % 2) 1
first_bit w = let e : w / 1 ≡ w = omega arith in ap (λ (n : ℕ). eqb (n % 2) 1) e

same_word : (n w w' : ℕ) → w < 2 ^ n → w' < 2 ^ n → ((b : ℕ) → b < n → is_set w b ≡ is_set w' b) → w ≡ w'
same_word zero w w' h h' same = omega arith
same_word (suc n) w w' h h' same =
    let double : 2 ^ suc n ≡ 2 * 2 ^ n = pow-succ' 2 n in
    let halves : w / 2 ≡ w' / 2 = same_word n (w / 2) (w' / 2) (omega arith) (omega arith) (λ b k. half_bit w b ∙ same (suc b) (omega arith) ∙ sym (half_bit w' b)) in
    let ends : w % 2 ≡ w' % 2 = last_bit (w % 2) (w' % 2) (omega arith) (omega arith) (sym (first_bit w) ∙ same 0 (omega arith) ∙ first_bit w') in
    omega arith

-- a set of links has one packing
pub packed_once : (S : ℕ → Bool) (ws ws' : List ℕ) → Packed S ws → Packed S ws' → ws ≡ ws'
packed_once S ws ws' p p' = ext_get_or 0 ws ws' (p.four ∙ sym p'.four) (λ k h.
    let few : k < 4 = let e = p.four in omega arith in
    same_word 64 (get_or ws k 0) (get_or ws' k 0) (p.small k few) (p'.small k few) (λ b i.
    let word : (64 * k + b) / 64 ≡ k = omega arith in
    let place : (64 * k + b) % 64 ≡ b = omega arith in
    subst₂ (λ (i j : ℕ). is_set (get_or ws i 0) j ≡ is_set (get_or ws' i 0) j) word place (p.bits (64 * k + b) (omega arith) ∙ sym (p'.bits (64 * k + b) (omega arith)))))
