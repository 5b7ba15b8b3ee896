-- Sums in plain numbers, the word that a plan has in a table, how an entry changes, and which plans agree at the kept links. Assumes nothing.
use Rattle.std.specs.Prelude.{◌≡◌, ◌≤◌, ℕ, zero, suc, ◌+◌, ◌-◌, ◌<◌, min, Bool, true, ℤ, pos, negsuc, ◌+ℤ◌, if◌then◌else◌, nat_lt, slice_index}
use Rattle.scale.specs.Levels.{Level}
use Rattle.theory.specs.Problem.{Problem, Plan, Valid, put, size, at, arity, function, position}
use Rattle.theory.specs.Links.{link}

-- t 0 + t 1 + .. + t (n - 1), of whole numbers
unfoldable pub sum_below : ℕ → (ℕ → ℤ) → ℤ
sum_below zero t = pos 0
sum_below (suc n) t = sum_below n t +ℤ t n

-- the same, of numbers from 0
unfoldable pub total_below : ℕ → (ℕ → ℕ) → ℕ
total_below zero t = 0
total_below (suc n) t = total_below n t + t n

-- the lowest of 1,000 and t 0, t 1, .., t (n - 1)
unfoldable pub lowest_below : ℕ → (ℕ → ℕ) → ℕ
lowest_below zero t = 1000
lowest_below (suc n) t = min (lowest_below n t) (t n)

-- The number that 32 bits are in two's complement: n below 2^31, and n - 2^32 from there on. `negsuc m` is -(m + 1).
abbrev pub signed_32 : ℕ → ℤ
signed_32 n = if nat_lt n 2147483648 then pos n else negsuc (4294967295 - n)

-- the same of 16 bits
abbrev pub signed_16 : ℕ → ℤ
signed_16 n = if nat_lt n 32768 then pos n else negsuc (65535 - n)

-- the word that a plan has in the table of the function f
abbrev pub word_at : Problem → ℕ → Plan → ℕ
word_at P f y = slice_index (function P f).words (position P f y)

-- A valid plan, and two values for the variable at the place p of the function f.
pub record Change (P : Problem) (f p : ℕ) : Type 0 where
  pub plan : Plan
  pub valid : Valid P plan
  pub first : ℕ
  pub second : ℕ
  pub first_value : first < size P (at P f p)
  pub second_value : second < size P (at P f p)

-- the word of f at that plan with the first value there, and with the second
abbrev pub first_word : {P : Problem} {f p : ℕ} → Change P f p → ℕ
first_word {P} {f} {p} c = word_at P f (put c.plan (at P f p) c.first)

abbrev pub second_word : {P : Problem} {f p : ℕ} → Change P f p → ℕ
second_word {P} {f} {p} c = word_at P f (put c.plan (at P f p) c.second)

-- A valid plan that has the values of y at the places of the function f whose links are kept.
pub record Agreeing (P : Problem) (kept : ℕ → Bool) (f : ℕ) (y : Plan) : Type 0 where
  pub plan : Plan
  pub valid : Valid P plan
  pub same : (p : ℕ) → p < arity P f → kept (link f p) ≡ true → plan (at P f p) ≡ y (at P f p)

-- The values of capped and weakest are the numbers from 0 to 1,000, each once.
pub record AreLevels : Type 0 where
  pub small : (a : Level) → a.size ≤ 1000
  pub some : (n : ℕ) → n ≤ 1000 → (a : Level) × (a.size ≡ n)
  pub once : (a b : Level) → a.size ≡ b.size → a ≡ b
