-- The links that are kept by their weights. Assumes nothing.
use Rattle.std.specs.Prelude.{◌≡◌, ℕ, Bool, false}
use Rattle.scale.specs.Rules.{Rules}
use Rattle.theory.specs.Problem.{Problem}
use Rattle.theory.specs.Keeping.{Keeps}
use Rattle.theory.specs.Links.{is_link, graph}
use Rattle.theory.specs.Cut.{Weights}

-- Every link is weighed, and links are kept from the heaviest, each that closes no cycle with those kept.
pub record Bounded {E : Type 0} (R : Rules E) (P : Problem) (weight : ℕ → E) (kept : ℕ → Bool) : Type 0 where
  pub weights : Weights R P weight
  pub keeps : Keeps (graph P) R.leq weight kept
  -- a number that no link has is neither weighed nor kept
  pub unweighed : (n : ℕ) → is_link P n ≡ false → weight n ≡ R.neutral
  pub unkept : (n : ℕ) → is_link P n ≡ false → kept n ≡ false
