-- The links that are not kept, as a set that clears every cycle. Assumes nothing.
use Rattle.std.specs.Prelude.{◌≡◌, ℕ, ◌+◌, Bool, true, ◌↔◌}
use Rattle.scale.specs.Rules.{Rules}
use Rattle.theory.specs.Problem.{Problem}
use Rattle.theory.specs.Graphs.{Joined, Clears, Parts, every, outside, set_weight, link_count}
use Rattle.theory.specs.Links.{graph}

-- The removed links, those outside `kept`, are a lightest set that clears every cycle.
pub record LightestRemoved {E : Type 0} (R : Rules E) (P : Problem) (weight : ℕ → E) (kept : ℕ → Bool) : Type 0 where
  -- The kept links form no cycle.
  pub clears : Clears (graph P) (outside kept)
  -- No set of links that clears every cycle weighs less.
  pub lightest : (C : ℕ → Bool) → Clears (graph P) C → R.leq (set_weight R (graph P) weight (outside kept)) (set_weight R (graph P) weight C) ≡ true
  -- The kept links join what all links join.
  pub joins : (a b : ℕ) → Joined (graph P) every a b ↔ Joined (graph P) kept a b
  -- As many are removed as there are links, less the nodes, plus the connected parts; stated as sums.
  pub left_out : (parts : ℕ) → Parts (graph P) parts → link_count (graph P) (outside kept) + (graph P).nodes ≡ link_count (graph P) every + parts
