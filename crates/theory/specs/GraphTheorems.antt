-- What is proved of the links that the rule keeps, over any weights that keep the laws. Assumes nothing.
use Rattle.std.specs.Prelude.{◌≡◌, ℕ, ◌+◌, ◌<◌, Bool, true, ◌↔◌}
use Rattle.scale.specs.Rules.{Rules}
use Rattle.scale.specs.Laws.{Plain}
use Rattle.theory.specs.Graphs.{Graph, Whole, Joined, Clears, Parts, every, outside, set_weight, link_count}
use Rattle.theory.specs.Keeping.{Keeps}

-- The rule can be followed in every graph.
abbrev pub Keeps_exists : Type 0 → Type 0
Keeps_exists E = (R : Rules E) → Plain R → (G : Graph) → Whole G → (w : ℕ → E) → (K : ℕ → Bool) × Keeps G R.leq w K

-- The kept links form no cycle.
abbrev pub Kept_clears : Type 0 → Type 0
Kept_clears E = (R : Rules E) → Plain R → (G : Graph) → Whole G → (w : ℕ → E) (K : ℕ → Bool) → Keeps G R.leq w K → Clears G (outside K)

-- They join what all links join.
abbrev pub Kept_joins : Type 0 → Type 0
Kept_joins E =
    (R : Rules E) → Plain R → (G : Graph) → Whole G → (w : ℕ → E) (K : ℕ → Bool) → Keeps G R.leq w K →
    (a b : ℕ) → Joined G every a b ↔ Joined G K a b

-- No set of links that clears every cycle is lighter than the links that are not kept, if no link is below neutral.
abbrev pub Lightest : Type 0 → Type 0
Lightest E =
    (R : Rules E) → Plain R → (G : Graph) → Whole G → (w : ℕ → E) → ((n : ℕ) → n < G.links → G.present n ≡ true → R.leq R.neutral (w n) ≡ true) →
    (K : ℕ → Bool) → Keeps G R.leq w K →
    (C : ℕ → Bool) → Clears G C →
    R.leq (set_weight R G w (outside K)) (set_weight R G w C) ≡ true

-- The rule leaves no choice.
abbrev pub Keeps_unique : Type 0 → Type 0
Keeps_unique E =
    (R : Rules E) → Plain R → (G : Graph) → Whole G → (w : ℕ → E) (K L : ℕ → Bool) → Keeps G R.leq w K → Keeps G R.leq w L →
    (n : ℕ) → n < G.links → G.present n ≡ true → K n ≡ L n

-- Every graph has a number of connected parts.
abbrev pub Parts_known : Type 0
Parts_known = (G : Graph) → Whole G → (parts : ℕ) × Parts G parts

-- The links left out are as many as the links, less the nodes, plus the parts; stated as sums.
abbrev pub Left_out_count : Type 0 → Type 0
Left_out_count E =
    (R : Rules E) → Plain R → (G : Graph) → Whole G → (w : ℕ → E) (K : ℕ → Bool) → Keeps G R.leq w K →
    (parts : ℕ) → Parts G parts → link_count G (outside K) + G.nodes ≡ link_count G every + parts
