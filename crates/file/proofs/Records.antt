-- Scope records: five bytes. Assumes nothing.
use Rattle.std.proofs.Common.{◌≡◌, ℕ, zero, suc, ◌+◌, ◌-◌, ◌<◌, ◌≤◌, min, List, [], ◌∷◌, ◌++◌, length, get_or, take, replicate, Ok, Err, Result, sym, refl, ap, ◌∙◌, subst, inl, inr, ⊎_elim, one-add, arith}
use Rattle.std.proofs.lemmas.List.FromFn.{get_or-map-range_with_len, length-map-range_with_len}
use Rattle.std.proofs.lemmas.List.{ext_get_or, get_or_append_left, get_or-append_right, get_or-replicate, get_or-take, length-append, length-replicate, length-take}
use Rattle.std.proofs.lemmas.Bool.{cases_lt}
use Rattle.theory.specs.Refusals.{Answered, function_tests}
use Rattle.layout.specs.Numbers.{problem_number}
use Rattle.layout.specs.declared.fault.ProblemFault.{ProblemFault}
use Rattle.file.specs.Numbers.{refusal, located}
use Rattle.file.specs.Spelling.{scope_bytes}
use Rattle.file.specs.Tests.{at_place, scope_told}
use Rattle.file.proofs.Testing.{answered_located}

pub bytes_length : (scope : List ℕ) → length scope ≤ 4 → length (scope_bytes scope) ≡ 5
bytes_length scope few =
    let rest = length-append scope (replicate (4 - length scope) 255) in
    let blank = length-replicate {A = ℕ} (4 - length scope) 255 in
    omega arith

-- five bytes with a scope's size, its variables, and 255 at each unused place are those of the scope
module _ (bs scope : List ℕ) (long : length bs ≡ 5) (size : get_or bs 0 0 ≡ length scope) (few : length scope ≤ 4)
    (used : (p : ℕ) → p < length scope → get_or bs (1 + p) 0 ≡ get_or scope p 0) (unused : (p : ℕ) → length scope ≤ p → p < 4 → get_or bs (1 + p) 0 ≡ 255) where
  place_is : (p : ℕ) → p < 4 → get_or bs (1 + p) 0 ≡ get_or (scope ++ replicate (4 - length scope) 255) p 0
  place_is p h =
      ⊎_elim
      (λ (lt : p < length scope). used p lt ∙ sym (get_or_append_left scope (replicate (4 - length scope) 255) 0 p lt))
      (λ (le : length scope ≤ p).
      unused p le h ∙ sym (get_or-append_right scope (replicate (4 - length scope) 255) (length scope) p 0 refl le
      ∙ get_or-replicate (4 - length scope) (p - length scope) 255 0 (omega arith)))
      (cases_lt p (length scope))

  byte_is : (i : ℕ) → i < length bs → get_or bs i 0 ≡ get_or (scope_bytes scope) i 0
  byte_is zero h = size
  byte_is (suc p) h = rw one-add at (place_is p (omega arith))

  pub bytes_are : bs ≡ scope_bytes scope
  bytes_are = ext_get_or 0 bs (scope_bytes scope) (long ∙ sym (bytes_length scope few)) byte_is

-- the four variables of a record, and a fifth
abbrev pub five : List ℕ → List ℕ
five bs = get_or bs 1 0 ∷ get_or bs 2 0 ∷ get_or bs 3 0 ∷ get_or bs 4 0 ∷ 0 ∷ []

five_at : (bs : List ℕ) (p : ℕ) → p < 4 → get_or (five bs) p 0 ≡ get_or bs (1 + p) 0
five_at bs zero h = refl
five_at bs (suc zero) h = refl
five_at bs (suc (suc zero)) h = refl
five_at bs (suc (suc (suc zero))) h = refl
five_at bs (suc (suc (suc (suc p)))) h = absurd (omega arith)

pub told_length : (bs : List ℕ) → length (scope_told bs) ≡ get_or bs 0 0
told_length bs = length-map-range_with_len (λ (p : ℕ). get_or bs (1 + p) 0) 0 (get_or bs 0 0)

pub told_at : (bs : List ℕ) (p : ℕ) → p < get_or bs 0 0 → get_or (scope_told bs) p 0 ≡ get_or bs (1 + p) 0
told_at bs p h = get_or-map-range_with_len (λ (q : ℕ). get_or bs (1 + q) 0) 0 (get_or bs 0 0) p p 0 h (omega arith)

-- a scope of at most four places is the front of the five
told_front : (bs : List ℕ) (n : ℕ) → n ≡ get_or bs 0 0 → n ≤ 4 → take n (five bs) ≡ scope_told bs
told_front bs n is few =
    let long = length-take n (five bs) in
    let told = told_length bs in
    ext_get_or 0 (take n (five bs)) (scope_told bs) (omega arith)
    (λ p h. get_or-take n (five bs) p 0 (omega arith) ∙ five_at bs p (omega arith) ∙ sym (told_at bs p (omega arith)))

module _ {T : Type 0} (ds bs : List ℕ) (count used place : ℕ) (P : List ℕ → T → Type 0) where
  -- a longer scope is declined as too long
  too_long : (xs : List ℕ) → 4 < length xs → 4 < get_or bs 0 0 → (r : Result T ProblemFault) → Answered problem_number (function_tests ds count used xs) (P xs) r →
      Answered refusal (at_place place (function_tests ds count used (scope_told bs))) (P (scope_told bs)) (located r place)
  too_long xs over told (Ok x) h = absurd (h.0.0 (inr over))
  too_long xs over told (Err f) (inl here) = let long = told_length bs in inl (inr (omega arith), ap (λ (m : ℕ). (m, place)) here.1)
  too_long xs over told (Err f) (inr later) = absurd (later.0 (inr over))

  pub told_answered : (n : ℕ) → n ≡ min (get_or bs 0 0) 5 → (r : Result T ProblemFault) → Answered problem_number (function_tests ds count used (take n (five bs))) (P (take n (five bs))) r →
      Answered refusal (at_place place (function_tests ds count used (scope_told bs))) (P (scope_told bs)) (located r place)
  told_answered n is r h =
      ⊎_elim
      (λ (few : get_or bs 0 0 < 5).
      let front = told_front bs n (omega arith) (omega arith) in
      answered_located place (function_tests ds count used (scope_told bs)) (P (scope_told bs)) r
      (subst (λ (xs : List ℕ). Answered problem_number (function_tests ds count used xs) (P xs) r) front h))
      (λ (many : 5 ≤ get_or bs 0 0).
      let long = length-take n (five bs) in
      too_long (take n (five bs)) (omega arith) many r h)
      (cases_lt (get_or bs 0 0) 5)
