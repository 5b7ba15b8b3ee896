-- One byte more than the longest file has is enough to answer an input. Assumes nothing.
use Rattle.std.proofs.Common.{◌≡◌, ℕ, ◌+◌, ◌<◌, ◌≤◌, List, ◌∷◌, ◌++◌, length, take, sym, refl, inl, inr, arith}
use Rattle.std.proofs.lemmas.List.{get_or-take, length-take-le}
use Rattle.scale.specs.Rules.{Rules}
use Rattle.theory.specs.Refusals.{First, NoneFits}
use Rattle.file.specs.Bytes.{half}
use Rattle.file.specs.Tests.{header_tests, file_tests}
use Rattle.inspection.specs.Limit.{TellsCode, Suffices}

module _ {A : Type 0} where
  -- one of the tests fits, and up to it the two lists have the same tests
  data Settled : List (A × Type 0) → List (A × Type 0) → Type 1 where
    step : {a : A} {P Q : Type 0} {ts us : List (A × Type 0)} → (P → Q) → (Q → P) → ((P → ⊥) → Settled ts us) → Settled ((a, P) ∷ ts) ((a, Q) ∷ us)

  -- so they have the same first answer, whatever tests come later
  settled_first : {ts us : List (A × Type 0)} (ts' us' : List (A × Type 0)) (a : A) → Settled ts us → First (ts ++ ts') a → First (us ++ us') a
  settled_first ts' us' a (step to back later) (inl here) = inl (to here.0, here.1)
  settled_first ts' us' a (step to back later) (inr (fails, found)) = inr ((λ fits. fails (back fits)), settled_first ts' us' a (later fails) found)

  -- and some test fits
  settled_fits : {ts us : List (A × Type 0)} (ts' : List (A × Type 0)) → Settled ts us → NoneFits (ts ++ ts') → ⊥
  settled_fits ts' (step to back later) (fails, none) = settled_fits ts' (later fails) none

-- the same header settles two inputs that are longer than any file
header_settles : (code : ℕ) (bs cs : List ℕ) → 16785 ≤ length bs → 16785 ≤ length cs → ((k : ℕ) → k < 15 → half bs k ≡ half cs k) →
    Settled (header_tests code bs) (header_tests code cs)
header_settles code bs cs long-b long-c same =
    let h0 = same 0 (omega arith) in
    let h2 = same 2 (omega arith) in
    let h4 = same 4 (omega arith) in
    let h6 = same 6 (omega arith) in
    let h8 = same 8 (omega arith) in
    let h10 = same 10 (omega arith) in
    let h12 = same 12 (omega arith) in
    let h14 = same 14 (omega arith) in
    step (λ fits. omega arith) (λ fits. omega arith) (λ _.
    step (λ fits. omega arith) (λ fits. omega arith) (λ _.
    step (λ fits. omega arith) (λ fits. omega arith) (λ few_variables.
    step (λ fits. omega arith) (λ fits. omega arith) (λ few_functions.
    step (λ fits. omega arith) (λ fits. omega arith) (λ few_entries.
    step (λ fits. omega arith) (λ fits. omega arith) (λ _.
    step (λ fits. omega arith) (λ fits. omega arith) (λ _.
    step (λ fits. omega arith) (λ fits. omega arith) (λ _.
    step (λ fits. omega arith) (λ fits. omega arith) (λ _.
    step (λ fits. omega arith) (λ fits. omega arith) (λ other. absurd (other (omega arith))))))))))))

-- so both inputs have the same first answer
same_first : {E : Type 0} (R : Rules E) (bs cs : List ℕ) (a : ℕ × ℕ) → 16785 ≤ length bs → 16785 ≤ length cs → ((k : ℕ) → k < 15 → half bs k ≡ half cs k) →
    First (file_tests R bs) a → First (file_tests R cs) a
same_first R bs cs a long-b long-c same = settled_first _ _ a (header_settles R.code bs cs long-b long-c same)

-- a number of the front of an input is the input's
front_half : (n : ℕ) (bs : List ℕ) (k : ℕ) → k + 2 ≤ n → half (take n bs) k ≡ half bs k
front_half n bs k h =
    let low = get_or-take n bs k 0 (omega arith) in
    let high = get_or-take n bs (k + 1) 0 (omega arith) in
    omega arith

-- more bytes than any file has are enough
module _ (n : ℕ) (more : 16785 ≤ n) where
  pub tells : TellsCode n
  tells bs = front_half n bs 0 (omega arith)

  pub enough : {E : Type 0} (R : Rules E) → Suffices n R
  enough R = record {
    whole = λ bs a long.
        let cut = length-take-le n bs long in
        same_first R bs (take n bs) a (omega arith) (omega arith) (λ k h. sym (front_half n bs k (omega arith)));
    front = λ bs a long.
        let cut = length-take-le n bs long in
        same_first R (take n bs) bs a (omega arith) (omega arith) (λ k h. front_half n bs k (omega arith));
    declined = λ bs long.
        settled_fits _ (header_settles R.code bs bs (omega arith) (omega arith) (λ _ _. refl));
  }
