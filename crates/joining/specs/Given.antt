-- A join of values that are given number by number. Assumes nothing.
use Rattle.std.specs.Prelude.{◌≡◌, ℕ, ◌<◌, ◌≤◌, Some, None, Option}
use Rattle.scale.specs.Rules.{Rules}
use Rattle.theory.specs.Joins.{joins}
use Rattle.joining.specs.Counts.{counts}
use Rattle.joining.specs.Standing.{StandsFor}

module _ {V E : Type 0} (R : Rules E) (means : V → E) (within : ℕ → V → Type 0) where
  -- What is given, if anything, stands for e, joined of at most n entries.
  abbrev pub Gives : E → ℕ → Option V → Type 0
  Gives e n None = (e ≡ R.neutral) × (n ≡ 0)
  Gives e n (Some v) = StandsFor means within e n v

  -- r stands for the join of whatever is given at the numbers below `count`.
  abbrev pub JoinOfGiven : ℕ → (ℕ → Option V → Type 0) → V → Type 0
  JoinOfGiven count given r =
      (e : ℕ → E) (n : ℕ → ℕ) → ((i : ℕ) (o : Option V) → i < count → given i o → Gives (e i) (n i) o) → joins counts count n ≤ 1024 →
      StandsFor means within (joins R count e) (joins counts count n) r
