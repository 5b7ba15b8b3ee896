-- What the report of a solve guarantees of the problem. Assumes nothing.
use Rattle.std.specs.Prelude.{◌≡◌, ℕ, Bool, true}
use Rattle.scale.specs.Rules.{Rules}
use Rattle.theory.specs.Problem.{Problem, Plan, Valid, score, score_by}
use Rattle.theory.specs.Graphs.{Clears, outside, set_weight}
use Rattle.theory.specs.KeptBy.{Rule, KeptBy}
use Rattle.theory.specs.Links.{graph}
use Rattle.theory.specs.Cut.{Weights, IsCut}
use Rattle.rules.specs.Figures.{Figures, Packed, planned}

module _ {E : Type 0} (R : Rules E) (P : Problem) (rule : Rule) (figures : Figures E) where
  -- What a report guarantees on every scale.
  pub record Guaranteed : Type 0 where
    -- the links that the rule keeps, as the report tells them, and the cut tables
    pub kept : ℕ → Bool
    pub by_rule : (weight : ℕ → E) × KeptBy R P weight kept rule
    pub kept_told : Packed kept figures.kept
    pub cut : ℕ → Plan → E
    pub is_cut : IsCut R P kept cut
    -- our plan
    pub valid : Valid P (planned figures.plan)
    pub scored : figures.score ≡ score R P (planned figures.plan)
    -- Every valid plan's score is at most the ceiling.
    pub at_most_ceiling : (y : Plan) → Valid P y → R.leq (score R P y) figures.ceiling ≡ true
    -- Every valid plan's cut score is at most the tree value, our plan's cut score is the tree value, and our plan's score is not below it.
    pub at_most_tree : (y : Plan) → Valid P y → R.leq (score_by R P cut y) figures.tree ≡ true
    pub reaches_tree : score_by R P cut (planned figures.plan) ≡ figures.tree
    pub not_below_tree : R.leq figures.tree figures.score ≡ true

  -- What it guarantees besides on a measuring scale.
  pub record GuaranteedLightest : Type 0 where
    pub plainly : Guaranteed
    pub weight : ℕ → E
    pub weights : Weights R P weight
    -- Every set of links that clears every cycle weighs at least the removed weight; the removed links clear every cycle, and weigh exactly that.
    pub at_least_removed : (C : ℕ → Bool) → Clears (graph P) C → R.leq figures.removed (set_weight R (graph P) weight C) ≡ true
    pub removed_clear : Clears (graph P) (outside plainly.kept)
    pub removed_weigh : set_weight R (graph P) weight (outside plainly.kept) ≡ figures.removed
