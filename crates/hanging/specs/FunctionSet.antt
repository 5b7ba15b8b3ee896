-- The functions of a set. Assumes nothing.
use Rattle.std.specs.Prelude.{◌≡◌, ℕ, ◌<◌, Bool, true, false, ◌==◌, ◌≢◌}
use Rattle.theory.specs.Kept.{bit}
use Rattle.hanging.specs.declared.function_set.FunctionSet.{FunctionSet}

-- whether the function f is in the set
abbrev pub in_set : FunctionSet → ℕ → Bool
in_set s f = bit s.word f == 1

-- From s to t the function f is taken out: the lowest of s. The word gets less.
pub record First (s : FunctionSet) (f : ℕ) (t : FunctionSet) : Type 0 where
  pub within : f < 64
  pub was : in_set s f ≡ true
  pub lowest : (g : ℕ) → g < f → in_set s g ≡ false
  pub gone : in_set t f ≡ false
  pub others : (g : ℕ) → g < 64 → g ≢ f → in_set t g ≡ in_set s g
  pub less : t.word < s.word
