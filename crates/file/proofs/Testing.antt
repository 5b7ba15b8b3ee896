-- The first test that fits, item by item and at a place. Assumes nothing.
use Rattle.std.proofs.Common.{◌≡◌, ℕ, zero, suc, ◌+◌, ◌<◌, ◌≤◌, List, [], ◌∷◌, Ok, Err, Result, ap, subst, inl, inr, ⊎_elim, add-one, arith}
use Rattle.std.proofs.lemmas.Bool.{cases_lt}
use Rattle.theory.specs.Refusals.{First, NoneFits, Answered}
use Rattle.theory.proofs.Refusing.{first_before, first_after, none_both, none_front, none_back}
use Rattle.layout.specs.Numbers.{problem_number}
use Rattle.layout.specs.declared.fault.ProblemFault.{ProblemFault}
use Rattle.file.specs.Numbers.{refusal, located}
use Rattle.file.specs.Tests.{each, at_place}

module _ {A : Type 0} (g : ℕ → List (A × Type 0)) where
  pub none_each : NoneFits (each 0 g)
  unfolding each
  none_each = tt

  pub none_more : (n : ℕ) → NoneFits (each n g) → NoneFits (g n) → NoneFits (each (n + 1) g)
  unfolding each
  none_more n none here = rw (add-one n) (none_both (each n g) (g n) none here)

  pub first_each : (n i : ℕ) (a : A) → i < n → NoneFits (each i g) → First (g i) a → First (each n g) a
  unfolding each
  first_each zero i a h none here = absurd (omega arith)
  first_each (suc n) i a h none here =
      ⊎_elim
      (λ (lt : i < n). first_before (each n g) (g n) a (first_each n i a lt none here))
      (λ (le : n ≤ i).
      let same : i ≡ n = omega arith in
      first_after (each n g) (g n) a (subst (λ (k : ℕ). NoneFits (each k g)) same none) (subst (λ (k : ℕ). First (g k) a) same here))
      (cases_lt i n)

  pub none_at : (n i : ℕ) → i < n → NoneFits (each n g) → NoneFits (g i)
  unfolding each
  none_at zero i h none = absurd (omega arith)
  none_at (suc n) i h none =
      ⊎_elim
      (λ (lt : i < n). none_at n i lt (none_front (each n g) (g n) none))
      (λ (le : n ≤ i). let same : n ≡ i = omega arith in subst (λ (k : ℕ). NoneFits (g k)) same (none_back (each n g) (g n) none))
      (cases_lt i n)

pub first_placed : (k n : ℕ) (ts : List (ℕ × Type 0)) → First ts n → First (at_place k ts) (n, k)
first_placed k n [] found = found
first_placed k n (t ∷ ts) (inl here) = inl (here.0, ap (λ (m : ℕ). (m, k)) here.1)
first_placed k n (t ∷ ts) (inr later) = inr (later.0, first_placed k n ts later.1)

pub none_placed : (k : ℕ) (ts : List (ℕ × Type 0)) → NoneFits ts → NoneFits (at_place k ts)
none_placed k [] none = tt
none_placed k (t ∷ ts) none = (none.0, none_placed k ts none.1)

-- back from the place
pub none_unplaced : (k : ℕ) (ts : List (ℕ × Type 0)) → NoneFits (at_place k ts) → NoneFits ts
none_unplaced k [] none = tt
none_unplaced k (t ∷ ts) none = (none.0, none_unplaced k ts none.1)

-- what the problem answers, with a place
pub answered_located : {T : Type 0} (k : ℕ) (ts : List (ℕ × Type 0)) (P : T → Type 0) (r : Result T ProblemFault) → Answered problem_number ts P r → Answered refusal (at_place k ts) P (located r k)
answered_located k ts P (Ok x) h = (none_placed k ts h.0, h.1)
answered_located k ts P (Err f) h = first_placed k (problem_number f) ts h
