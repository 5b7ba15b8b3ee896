-- Bytes that are written one after the other. Assumes nothing.
use Rattle.std.proofs.Common.{◌≡◌, ℕ, ◌+◌, ◌*◌, ◌/◌, ◌%◌, ◌<◌, ◌≤◌, List, [], ◌∷◌, length, get_or, sym, refl, ap, ◌∙◌, subst, inl, inr, ⊎_elim, arith}
use native.Mathlib.Nat.{div-div-eq-div-mul}
use Rattle.std.proofs.lemmas.List.{ext_get_or}
use Rattle.std.proofs.lemmas.Bool.{cases_lt}
use Rattle.file.specs.Bytes.{half, word, part}
use Rattle.file.specs.Inner.{Written}
use Rattle.file.proofs.Parts.{part_at, part_length}

-- a write behind what was written
pub written_more : (a b c : List ℕ) (from mid to : ℕ) → from ≤ mid → mid ≤ to → Written a b from mid → Written b c mid to → Written a c from to
written_more a b c from mid to low high first second = record {
  outside = λ k.
      ⊎_elim
      (λ (lt : k < from). second.outside k (inl (omega arith)) ∙ first.outside k (inl lt))
      (λ (ge : to ≤ k). second.outside k (inr ge) ∙ first.outside k (inr (omega arith)));
  bytes = λ k ge lt.
      ⊎_elim
      (λ (before : k < mid). subst (λ (n : ℕ). n < 256) (sym (second.outside k (inl before))) (first.bytes k ge before))
      (λ (behind : mid ≤ k). second.bytes k behind lt)
      (cases_lt k mid);
}

-- n bytes more, from a place up to another
pub record Put (a b c : List ℕ) (place from to n : ℕ) (bs : List ℕ) : Type 0 where
  pub written : Written a c place to
  pub last : Written b c from to
  pub content : part c from n ≡ bs

pub one_more : (a b c : List ℕ) (place from to n : ℕ) (bs : List ℕ) → length bs ≡ n → place ≤ from → from + n ≡ to →
    Written a b place from → Written b c from (from + length bs) → part c from (length bs) ≡ bs → Put a b c place from to n bs
one_more a b c place from to n bs long low end so_far put content =
    let last : Written b c from to = subst (λ (e : ℕ). Written b c from e) (omega arith) put in
    record { written = written_more a b c place from to low (omega arith) so_far last; last = last; content = ap (part c from) (sym long) ∙ content }

-- what lies before a write is kept
module _ (b c : List ℕ) (mid to : ℕ) (second : Written b c mid to) where
  pub byte_kept : (k : ℕ) → k < mid → get_or c k 0 ≡ get_or b k 0
  byte_kept k h = second.outside k (inl h)

  pub half_kept : (k : ℕ) → k + 2 ≤ mid → half c k ≡ half b k
  half_kept k h = let b0 = byte_kept k (omega arith) in let b1 = byte_kept (k + 1) (omega arith) in omega arith

  pub word_kept : (k : ℕ) → k + 4 ≤ mid → word c k ≡ word b k
  word_kept k h =
      let b0 = byte_kept k (omega arith) in
      let b1 = byte_kept (k + 1) (omega arith) in
      let b2 = byte_kept (k + 2) (omega arith) in
      let b3 = byte_kept (k + 3) (omega arith) in
      omega arith

  pub part_kept : (k n : ℕ) → length c ≡ length b → k + n ≤ mid → mid ≤ length b → part c k n ≡ part b k n
  part_kept k n same h room =
      let ours = part_length c k n (omega arith) in
      let theirs = part_length b k n (omega arith) in
      ext_get_or 0 (part c k n) (part b k n) (omega arith)
      (λ i lt. part_at c k n i (k + i) (omega arith) (omega arith) ∙ byte_kept (k + i) (omega arith) ∙ sym (part_at b k n i (k + i) (omega arith) (omega arith)))

-- a 16-bit number in two bytes, and a word in four
pub half_told : (bs : List ℕ) (k n : ℕ) → n < 65536 → part bs k 2 ≡ n % 256 ∷ (n / 256 % 256) ∷ [] → half bs k ≡ n
half_told bs k n small e =
    let b0 = sym (part_at bs k 2 0 k (omega arith) (omega arith)) ∙ ap (λ (xs : List ℕ). get_or xs 0 0) e in
    let b1 = sym (part_at bs k 2 1 (k + 1) (omega arith) refl) ∙ ap (λ (xs : List ℕ). get_or xs 1 0) e in
    omega arith

digits : (n : ℕ) → n < 4294967296 → n % 256 + n / 256 % 256 * 256 + n / 65536 % 256 * 65536 + n / 16777216 % 256 * 16777216 ≡ n
digits n small =
    let second : n / 256 / 256 ≡ n / 65536 = div-div-eq-div-mul n 256 256 in
    let third : n / 65536 / 256 ≡ n / 16777216 = div-div-eq-div-mul n 65536 256 in
    let low : n ≡ n / 256 * 256 + n % 256 = omega arith in
    let middle : n / 256 ≡ n / 65536 * 256 + n / 256 % 256 = omega arith in
    let high : n / 65536 ≡ n / 16777216 * 256 + n / 65536 % 256 = omega arith in
    let top : n / 16777216 % 256 ≡ n / 16777216 = omega arith in
    omega arith

pub word_told : (bs : List ℕ) (k n : ℕ) → n < 4294967296 → part bs k 4 ≡ n % 256 ∷ (n / 256 % 256) ∷ (n / 65536 % 256) ∷ (n / 16777216 % 256) ∷ [] → word bs k ≡ n
word_told bs k n small e =
    let b0 = sym (part_at bs k 4 0 k (omega arith) (omega arith)) ∙ ap (λ (xs : List ℕ). get_or xs 0 0) e in
    let b1 = sym (part_at bs k 4 1 (k + 1) (omega arith) refl) ∙ ap (λ (xs : List ℕ). get_or xs 1 0) e in
    let b2 = sym (part_at bs k 4 2 (k + 2) (omega arith) refl) ∙ ap (λ (xs : List ℕ). get_or xs 2 0) e in
    let b3 = sym (part_at bs k 4 3 (k + 3) (omega arith) refl) ∙ ap (λ (xs : List ℕ). get_or xs 3 0) e in
    let all = digits n small in
    omega arith
