-- Capped in plain numbers: what the scale is, and what is promised. Scores are numbers from 0 to 1,000, which are added up to 1,000. Assumes nothing.
use Rattle.std.specs.Prelude.{◌≡◌, ℕ, ◌+◌, ◌-◌, ◌*◌, ◌<◌, ◌≤◌, min, Bool, true, ◌&&◌, ◌↔◌, List, Some, pos, if◌then◌else◌, nat_le}
use Rattle.scale.specs.Rules.{Rules}
use Rattle.scale.specs.Levels.{Level}
use Rattle.scale.specs.declared.capped.Capped.{Capped}
use Rattle.theory.specs.Problem.{Problem, Plan, Valid, functions, arity}
use Rattle.theory.specs.Graphs.{Clears, outside}
use Rattle.theory.specs.KeptBy.{Rule, straight}
use Rattle.theory.specs.Links.{link, is_link, graph}
use Rattle.rules.specs.Figures.{Figures, Packed, planned}
use Rattle.calls.specs.State.{Standing, State, Call, Answer}
use Rattle.calls.specs.Step.{Runs, Begins}
use Rattle.shipped.specs.Plain.{total_below, word_at, Agreeing, Change, first_word, second_word, AreLevels}

-- the number that a word reads as: itself up to 1,000, and 0 above
abbrev pub capped_of : ℕ → ℕ
capped_of word = if nat_le word 1000 then word else 0

-- The rules of the scale are those of numbers from 0 to 1,000. A value's number is its `size`.
pub record AreCapped (R : Rules Level) (means : Capped → Level) : Type 0 where
  pub values : AreLevels
  -- a value of the machine is its number, and 1,000 above
  pub means_is : (c : Capped) → (means c).size ≡ min 1000 c.value
  -- higher is the higher number, and joined is added, up to 1,000
  pub order : (a b : Level) → (R.leq a b ≡ true) ↔ (a.size ≤ b.size)
  pub join : (a b : Level) → (R.join a b).size ≡ min 1000 (a.size + b.size)
  pub neutral : R.neutral.size ≡ 0
  -- the gap of the first over the second is the difference, and 0 where the first is lower
  pub gap : (a b : Level) → (R.gap a b).size ≡ a.size - b.size
  -- the words that are entries, and what a word reads as
  pub entry : (word : ℕ) → (R.entry word ≡ true) ↔ (word ≤ 1000)
  pub reads : (word : ℕ) → (R.reads word).size ≡ capped_of word
  pub neutral_word : R.neutral_word ≡ 0
  pub shown : (a : Level) → R.shown a ≡ (pos a.size, pos 0)
  pub code : R.code ≡ 2

module _ (P : Problem) where
  -- the score of a plan: what its words read as, over the functions, added, up to 1,000
  abbrev pub capped_score : Plan → ℕ
  capped_score y = min 1000 (total_below (functions P) (λ f. capped_of (word_at P f y)))

  -- The weight of a link is the most by which an entry of the function f changes where only the variable at its place p does.
  pub record CappedWeight (f p weight : ℕ) : Type 0 where
    pub attained : (c : Change P f p) × (capped_of (first_word c) - capped_of (second_word c) ≡ weight)
    pub most : (c : Change P f p) → capped_of (first_word c) - capped_of (second_word c) ≤ weight

  -- What the function f still gives at the plan y once the links that are not kept are removed: the least that its words read as, over the valid
  -- plans that agree with y where its links are kept.
  pub record CappedCut (kept : ℕ → Bool) (f : ℕ) (y : Plan) (value : ℕ) : Type 0 where
    pub attained : (z : Agreeing P kept f y) × (capped_of (word_at P f z.plan) ≡ value)
    pub least : (z : Agreeing P kept f y) → value ≤ capped_of (word_at P f z.plan)

  -- the weights of the links of a set, added, up to 1,000
  abbrev pub capped_of_links : (ℕ → ℕ) → (ℕ → Bool) → ℕ
  capped_of_links weight links = min 1000 (total_below (4 * functions P) (λ n. if is_link P n && links n then weight n else 0))

  -- What a report says of the problem; its values are told by their numbers, from 0 to 1,000.
  pub record CappedReport (rule : Rule) (figures : Figures Level) : Type 0 where
    -- our plan gives each variable a value of its domain, and this is its score
    pub valid : Valid P (planned figures.plan)
    pub scored : figures.score.size ≡ capped_score (planned figures.plan)
    -- no plan's score passes the ceiling
    pub at_most_ceiling : (y : Plan) → Valid P y → capped_score y ≤ figures.ceiling.size
    -- ours is not below the tree value; the ceiling is that and the removed weight added, up to 1,000
    pub not_below_tree : figures.tree.size ≤ figures.score.size
    pub ceiling_is : figures.ceiling.size ≡ min 1000 (figures.tree.size + figures.removed.size)
    -- in a straight solve, which removes no link, our plan's score is the ceiling, so that no plan has a higher one
    pub reached : rule ≡ straight → figures.score.size ≡ figures.ceiling.size
    -- the kept links, as the four words of the report tell them
    pub kept : ℕ → Bool
    pub kept_told : Packed kept figures.kept
    -- What each function still gives at a plan once the other links are removed. A plan's cut score is these, added, up to 1,000: no plan's passes the
    -- tree value, and that of ours is the tree value.
    pub cut : ℕ → Plan → ℕ
    pub cut_is : (f : ℕ) (y : Plan) → f < functions P → Valid P y → CappedCut kept f y (cut f y)
    pub at_most_tree : (y : Plan) → Valid P y → min 1000 (total_below (functions P) (λ f. cut f y)) ≤ figures.tree.size
    pub reaches_tree : min 1000 (total_below (functions P) (λ f. cut f (planned figures.plan))) ≡ figures.tree.size
    -- each link's weight
    pub weight : ℕ → ℕ
    pub weights : (f p : ℕ) → f < functions P → p < arity P f → CappedWeight f p (weight (link f p))
    -- The removed links clear every cycle and weigh the removed weight, and no links that clear every cycle weigh less.
    pub removed_clear : Clears (graph P) (outside kept)
    pub removed_weigh : figures.removed.size ≡ capped_of_links weight (outside kept)
    pub at_least_removed : (links : ℕ → Bool) → Clears (graph P) links → figures.removed.size ≤ capped_of_links weight links

-- From any start, after any list of calls, a report that stands says so of the problem as it is then.
abbrev pub CappedPromise : Rules Level → Type 0
CappedPromise R =
    (start : State Level) (calls : List (Call × Answer Level)) (state : State Level) →
    Begins R start → Runs R start calls state →
    (standing : Standing Level) → state.report ≡ Some standing →
    CappedReport state.problem standing.rule standing.figures
