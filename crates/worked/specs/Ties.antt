-- Ties worked through, in points: between two entries of a function, and between the weights of links. Assumes nothing.
use Rattle.std.specs.Prelude.{◌≡◌, ℕ, ◌^◌, ◌<◌, List, [], ◌∷◌, length, replicate, ℤ, pos, slice_index}
use Rattle.scale.specs.Points.{points}
use Rattle.theory.specs.Problem.{Problem}
use Rattle.theory.specs.Kept.{kept_at}
use Rattle.theory.specs.KeptBy.{Rule}
use Rattle.theory.specs.Bounded.{Bounded}
use Rattle.rules.specs.Figures.{Figures, Stores}
use Rattle.rules.specs.Report.{Solved}

-- Equal entries: one function of two variables of size 2, which gives 5 where variable 0 is 0, whatever variable 1 is.
abbrev pub equal_entries : Problem
equal_entries = record { domains = 2 ∷ 2 ∷ []; tables = record { scope = 0 ∷ 1 ∷ []; words = 5 ∷ 5 ∷ 0 ∷ 0 ∷ [] } ∷ [] }

-- Of the entries that are best at its parent's value, the function takes the first in table order: variable 1 has its value 0.
pub record FirstFigures (figures : Figures ℤ) : Type 0 where
  pub plan : figures.plan ≡ 0 ∷ 0 ∷ replicate 62 0
  pub score : figures.score ≡ pos 5

abbrev pub TakesFirst : Type 0
TakesFirst = (rule : Rule) (figures : Figures ℤ) (stores : Stores ℤ) → Solved points equal_entries rule figures stores → FirstFigures figures

-- Equal weights: two variables of size 2, and two functions of both with the same words. Each of the four links, 0, 1, 4 and 5, weighs 1.
abbrev pub equal_pair : Problem
equal_pair = record {
  domains = 2 ∷ 2 ∷ [];
  tables = record { scope = 0 ∷ 1 ∷ []; words = 0 ∷ 1 ∷ 1 ∷ 0 ∷ [] } ∷ record { scope = 0 ∷ 1 ∷ []; words = 0 ∷ 1 ∷ 1 ∷ 0 ∷ [] } ∷ [];
}

-- The four form a cycle, and of these the one with the highest number is removed: four 64-bit words with links 0, 1 and 4, so that word 0 is 19.
abbrev pub EqualWeights : Type 0
EqualWeights =
    (weight : ℕ → ℤ) (words : List ℕ) → length words ≡ 4 → ((k : ℕ) → k < 4 → slice_index words k < 2 ^ 64) →
    Bounded points equal_pair weight (kept_at words) → words ≡ 19 ∷ 0 ∷ 0 ∷ 0 ∷ []
