-- Which links are kept, by each of the two ways to solve. Assumes nothing.
use Rattle.std.specs.Prelude.{◌≡◌, ℕ, Bool}
use Rattle.scale.specs.Rules.{Rules}
use Rattle.theory.specs.Problem.{Problem}
use Rattle.theory.specs.Graphs.{Cycle, every}
use Rattle.theory.specs.Links.{is_link, graph}
use Rattle.theory.specs.Bounded.{Bounded}

-- The two ways to solve.
pub data Rule : Type 0 where
  straight : Rule
  bounded : Rule

module _ {E : Type 0} (R : Rules E) (P : Problem) (weight : ℕ → E) (kept : ℕ → Bool) where
  -- A straight solve keeps every link of a graph without a cycle, and weighs none.
  pub record Straight : Type 0 where
    pub no_cycle : Cycle (graph P) every → ⊥
    pub all_kept : (n : ℕ) → kept n ≡ is_link P n
    pub unweighed : (n : ℕ) → weight n ≡ R.neutral

  abbrev pub KeptBy : Rule → Type 0
  KeptBy straight = Straight
  KeptBy bounded = Bounded R P weight kept
