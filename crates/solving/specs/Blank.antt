-- Two boards before messages go up. Only for inner functions. Assumes nothing.
use Rattle.std.specs.Prelude.{◌≡◌, ℕ, ◌+◌, ◌<◌, List, length, replicate, slice_index_or}
use Rattle.scale.specs.Rules.{Rules}
use Rattle.messages.specs.Holding.{Holds}

-- No message and no choice is written yet: 128 rows of values are neutral, and all choices are 0. The 16 rows after them hold weights.
pub record Blank {V E : Type 0} (R : Rules E) (means : V → E) (within : ℕ → V → Type 0) (cells : List V) (taken : List ℕ) : Type 0 where
  pub values : length cells ≡ 2304
  pub neutral : (k : ℕ) → k < 2048 → Holds means within cells k R.neutral 0
  pub weights : (n : ℕ) (d : V) → n < 256 → within 2 (slice_index_or cells (2048 + n) d)
  pub choices : taken ≡ replicate 1024 0
