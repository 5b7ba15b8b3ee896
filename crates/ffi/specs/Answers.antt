-- What a function answers in one number. Assumes nothing.
use Rattle.std.specs.Prelude.{◌≡◌, ℕ, ◌+◌, ◌*◌, ◌%◌, ◌^◌, ◌≤◌, ◌⊎◌, List}
use Rattle.theory.specs.Refusals.{First, NoneFits}

-- 2^32 times the number of a refusal, and its place
abbrev pub coded : ℕ × ℕ → ℕ
coded a = a.0 * 2 ^ 32 + a.1 % 2 ^ 32

-- r tells the first test that fits, and is not 0.
abbrev pub Declined : List ((ℕ × ℕ) × Type 0) → ℕ → Type 0
Declined tests r = (a : ℕ × ℕ) × First tests a × (r ≡ coded a) × (1 ≤ a.0)

-- No test fits, and the call is done; or r tells the first that fits, and something is kept.
abbrev pub Told : List ((ℕ × ℕ) × Type 0) → ℕ → Type 0 → Type 0 → Type 0
Told tests r done kept = (NoneFits tests × done) ⊎ (Declined tests r × kept)
