-- What a solve answers, in exact values. Assumes nothing.
use Rattle.std.specs.Prelude.{◌≡◌, ℕ, ◌*◌, ◌/◌, ◌^◌, ◌<◌, Bool, cond, ◌&&◌, List, length, ℤ, pos, negsuc, nat_lt, slice_index}
use Rattle.theory.specs.Kept.{kept_at}
use Rattle.theory.specs.Problem.{Plan}

-- The figures of a report: the plan as 64 values, the kept links as four words and their count, the tree value, the plan's score, the weight of
-- the removed links, the ceiling, and the share of the ceiling that the score reaches, in thousandths.
pub record Figures (E : Type 0) : Type 0 where
  pub plan : List ℕ
  pub kept : List ℕ
  pub kept_count : ℕ
  pub tree : E
  pub score : E
  pub removed : E
  pub ceiling : E
  pub share : ℕ

-- What the two stores hold after a solve: 144 rows of 16 values, and 64 rows of 16 table indices.
pub record Stores (E : Type 0) : Type 0 where
  pub values : List E
  pub choices : List ℕ

-- a list of values as a plan
abbrev pub planned : List ℕ → Plan
planned values v = slice_index values v

-- A set of links as four 64-bit words.
pub record Packed (S : ℕ → Bool) (words : List ℕ) : Type 0 where
  pub four : length words ≡ 4
  pub small : (k : ℕ) → k < 4 → slice_index words k < 2 ^ 64
  pub bits : (n : ℕ) → n < 256 → kept_at words n ≡ S n

-- 1,000 × score ÷ ceiling, rounded down, where both are above 0, and otherwise 0
abbrev pub share_of : ℤ → ℤ → ℕ
share_of (pos score) (pos ceiling) = cond (nat_lt 0 score && nat_lt 0 ceiling) ((1000 * score) / ceiling) 0
share_of (pos score) (negsuc ceiling) = 0
share_of (negsuc score) ceiling = 0
