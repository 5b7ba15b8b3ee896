-- The entries of a table as the value at one place varies. Assumes nothing.
use Rattle.std.specs.Prelude.{◌≡◌, ℕ, ◌+◌, ◌*◌, ◌/◌, ◌%◌, ◌<◌, true, List, map, drop, slice_index}
use Rattle.scale.specs.Rules.{Rules}
use Rattle.theory.specs.Joins.{Highest, Lowest}
use Rattle.theory.specs.Problem.{Problem, product, size, scope_of, at}

-- how many values the variable at place p of the function f has
abbrev pub values_at : Problem → ℕ → ℕ → ℕ
values_at P f p = size P (at P f p)

-- how many combinations of values the later places have: entries that differ by one in the value at p stand so far apart
abbrev pub stride_at : Problem → ℕ → ℕ → ℕ
stride_at P f p = product (map (size P) (drop (p + 1) (scope_of P f)))

-- where the entry of value 0 stands, for the combination k of values at the other places
abbrev pub base : ℕ → ℕ → ℕ → ℕ
base values stride k = k / stride * values * stride + k % stride

-- what the entry of value x reads as, where that of value 0 stands at `from`
abbrev pub along : {E : Type 0} → Rules E → List ℕ → ℕ → ℕ → ℕ → E
along R table stride from x = R.reads (slice_index table (from + x * stride))

module _ {E : Type 0} (R : Rules E) (table : List ℕ) (values stride : ℕ) where
  -- g is the gap between the highest and the lowest of these entries
  pub record SwingFrom (from : ℕ) (g : E) : Type 0 where
    pub high : E
    pub low : E
    pub highest : Highest R (λ x. x < values) (along R table stride from) high
    pub lowest : Lowest R (λ x. x < values) (along R table stride from) low
    pub is : R.gap high low ≡ g

  -- w is the highest gap of n lines, where the entry of value 0 of line k stands at `start k`
  pub record Widest (start : ℕ → ℕ) (n : ℕ) (w : E) : Type 0 where
    pub attained : (k : ℕ) × (k < n) × SwingFrom (start k) w
    pub bound : (k : ℕ) (g : E) → k < n → SwingFrom (start k) g → R.leq g w ≡ true
