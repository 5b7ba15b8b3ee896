-- Points in plain numbers: what the scale is, and what is promised. Scores are whole numbers, which are added. Assumes nothing.
use Rattle.std.specs.Prelude.{◌≡◌, ℕ, ◌*◌, ◌<◌, Bool, true, ◌&&◌, ◌↔◌, List, Some, ℤ, pos, negsuc, ◌+ℤ◌, ◌-ℤ◌, ◌≤ℤ◌, ◌<ℤ◌, int_le, if◌then◌else◌}
use Rattle.scale.specs.Rules.{Rules}
use Rattle.scale.specs.declared.points.Points.{Points}
use Rattle.theory.specs.Problem.{Problem, Plan, Valid, functions, arity}
use Rattle.theory.specs.Graphs.{Clears, outside}
use Rattle.theory.specs.KeptBy.{Rule, straight}
use Rattle.theory.specs.Links.{link, is_link, graph}
use Rattle.rules.specs.Figures.{Figures, Packed, planned}
use Rattle.calls.specs.State.{Standing, State, Call, Answer}
use Rattle.calls.specs.Step.{Runs, Begins}
use Rattle.shipped.specs.Plain.{sum_below, signed_32, word_at, Agreeing, Change, first_word, second_word}

-- whether a number is from -1,000,000 to 1,000,000 (`negsuc 999999` is -1,000,000)
abbrev pub is_entry : ℤ → Bool
is_entry z = int_le (negsuc 999999) z && int_le z (pos 1000000)

-- the whole number that a word reads as: that of its 32 bits where it is in these bounds, and else 0
abbrev pub points_of : ℕ → ℤ
points_of word = if is_entry (signed_32 word) then signed_32 word else pos 0

-- The rules of the scale are those of whole numbers.
pub record AreWhole (R : Rules ℤ) (means : Points → ℤ) : Type 0 where
  -- a value of the machine is its number
  pub means_is : (p : Points) → means p ≡ p.value
  -- higher is the higher number, and joined is added
  pub order : (a b : ℤ) → (R.leq a b ≡ true) ↔ (a ≤ℤ b)
  pub join : (a b : ℤ) → R.join a b ≡ a +ℤ b
  pub neutral : R.neutral ≡ pos 0
  -- the gap of the first over the second is the difference, and 0 where the first is lower
  pub gap : (a b : ℤ) → b ≤ℤ a → R.gap a b ≡ a -ℤ b
  pub no_gap : (a b : ℤ) → a <ℤ b → R.gap a b ≡ pos 0
  -- the words that are entries, and what a word reads as
  pub entry : (word : ℕ) → (R.entry word ≡ true) ↔ ((negsuc 999999 ≤ℤ signed_32 word) × (signed_32 word ≤ℤ pos 1000000))
  pub reads : (word : ℕ) → R.reads word ≡ points_of word
  pub neutral_word : R.neutral_word ≡ 0
  pub shown : (a : ℤ) → R.shown a ≡ (a, pos 0)
  pub code : R.code ≡ 1

module _ (P : Problem) where
  -- the score of a plan: what its words read as, over the functions, in number order, added
  abbrev pub points_score : Plan → ℤ
  points_score y = sum_below (functions P) (λ f. points_of (word_at P f y))

  -- The weight of a link is the most by which an entry of the function f changes where only the variable at its place p does.
  pub record PointsWeight (f p : ℕ) (weight : ℤ) : Type 0 where
    pub attained : (c : Change P f p) × (points_of (first_word c) -ℤ points_of (second_word c) ≡ weight)
    pub most : (c : Change P f p) → (points_of (first_word c) -ℤ points_of (second_word c)) ≤ℤ weight

  -- What the function f still gives at the plan y once the links that are not kept are removed: the least that its words read as, over the valid
  -- plans that agree with y where its links are kept.
  pub record PointsCut (kept : ℕ → Bool) (f : ℕ) (y : Plan) (value : ℤ) : Type 0 where
    pub attained : (z : Agreeing P kept f y) × (points_of (word_at P f z.plan) ≡ value)
    pub least : (z : Agreeing P kept f y) → value ≤ℤ points_of (word_at P f z.plan)

  -- the weights of the links of a set, added
  abbrev pub points_of_links : (ℕ → ℤ) → (ℕ → Bool) → ℤ
  points_of_links weight links = sum_below (4 * functions P) (λ n. if is_link P n && links n then weight n else pos 0)

  -- What a report says of the problem.
  pub record PointsReport (rule : Rule) (figures : Figures ℤ) : Type 0 where
    -- our plan gives each variable a value of its domain, and this is its score
    pub valid : Valid P (planned figures.plan)
    pub scored : figures.score ≡ points_score (planned figures.plan)
    -- no plan's score passes the ceiling
    pub at_most_ceiling : (y : Plan) → Valid P y → points_score y ≤ℤ figures.ceiling
    -- ours is not below the tree value, and that and the removed weight add up to the ceiling
    pub not_below_tree : figures.tree ≤ℤ figures.score
    pub ceiling_is : figures.ceiling ≡ figures.tree +ℤ figures.removed
    -- in a straight solve, which removes no link, our plan's score is the ceiling, so that no plan has a higher one
    pub reached : rule ≡ straight → figures.score ≡ figures.ceiling
    -- the kept links, as the four words of the report tell them
    pub kept : ℕ → Bool
    pub kept_told : Packed kept figures.kept
    -- What each function still gives at a plan once the other links are removed. A plan's cut score is these, added: no plan's passes the
    -- tree value, and that of ours is the tree value.
    pub cut : ℕ → Plan → ℤ
    pub cut_is : (f : ℕ) (y : Plan) → f < functions P → Valid P y → PointsCut kept f y (cut f y)
    pub at_most_tree : (y : Plan) → Valid P y → sum_below (functions P) (λ f. cut f y) ≤ℤ figures.tree
    pub reaches_tree : sum_below (functions P) (λ f. cut f (planned figures.plan)) ≡ figures.tree
    -- each link's weight
    pub weight : ℕ → ℤ
    pub weights : (f p : ℕ) → f < functions P → p < arity P f → PointsWeight f p (weight (link f p))
    -- The removed links clear every cycle and weigh the removed weight, and no links that clear every cycle weigh less.
    pub removed_clear : Clears (graph P) (outside kept)
    pub removed_weigh : figures.removed ≡ points_of_links weight (outside kept)
    pub at_least_removed : (links : ℕ → Bool) → Clears (graph P) links → figures.removed ≤ℤ points_of_links weight links

-- From any start, after any list of calls, a report that stands says so of the problem as it is then.
abbrev pub PointsPromise : Rules ℤ → Type 0
PointsPromise R =
    (start : State ℤ) (calls : List (Call × Answer ℤ)) (state : State ℤ) →
    Begins R start → Runs R start calls state →
    (standing : Standing ℤ) → state.report ≡ Some standing →
    PointsReport state.problem standing.rule standing.figures
