-- What is known of links that are kept by their weights. Assumes nothing.
use Rattle.std.specs.Prelude.{◌≡◌, ℕ, ◌+◌, ◌<◌, Bool, true, ◌↔◌}
use Rattle.scale.specs.Rules.{Rules}
use Rattle.theory.specs.Graphs.{Graph, Uses, Joined, Clears, Parts, every, outside, set_weight, link_count}
use Rattle.theory.specs.Keeping.{Keeps}

-- The links K of the graph G are kept by the weights w.
pub record KeptByWeight {E : Type 0} (R : Rules E) (G : Graph) (w : ℕ → E) (K : ℕ → Bool) : Type 0 where
  -- Only present links are kept.
  pub only : (n : ℕ) → K n ≡ true → G.present n ≡ true
  -- They are those that the rule keeps: from the heaviest, each that closes no cycle with those kept.
  pub keeps : Keeps G R.leq w K
  -- They form no cycle.
  pub clears : Clears G (outside K)
  -- Each function with a link has a kept one; the function of a link is its right end.
  pub each : (n : ℕ) → Uses G every n → (m : ℕ) × Uses G K m × (G.right m ≡ G.right n)
  -- They join what all links join.
  pub joins : (a b : ℕ) → Joined G every a b ↔ Joined G K a b
  -- No set of links that clears every cycle is lighter than the links that are not kept, if no link is below neutral.
  pub lightest : ((n : ℕ) → n < G.links → G.present n ≡ true → R.leq R.neutral (w n) ≡ true) →
      (C : ℕ → Bool) → Clears G C → R.leq (set_weight R G w (outside K)) (set_weight R G w C) ≡ true
  -- As many are left out as there are links, less the nodes, plus the connected parts; stated as sums.
  pub left_out : (parts : ℕ) → Parts G parts → link_count G (outside K) + G.nodes ≡ link_count G every + parts
