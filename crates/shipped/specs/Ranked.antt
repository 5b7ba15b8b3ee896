-- Ranked in plain numbers: what the scale is, and what is promised. Scores are pairs of whole numbers, which are added part by part, and of which
-- the first counts first. Assumes nothing.
use Rattle.std.specs.Prelude.{◌≡◌, ℕ, ◌*◌, ◌/◌, ◌%◌, ◌<◌, Bool, true, ◌&&◌, ◌⊎◌, ◌↔◌, List, Some, ℤ, pos, negsuc, ◌+ℤ◌, ◌-ℤ◌, ◌≤ℤ◌, ◌<ℤ◌, int_le, if◌then◌else◌}
use Rattle.scale.specs.Rules.{Rules}
use Rattle.scale.specs.declared.ranked.Ranked.{Ranked}
use Rattle.theory.specs.Problem.{Problem, Plan, Valid, functions, arity}
use Rattle.theory.specs.Graphs.{Clears, outside}
use Rattle.theory.specs.KeptBy.{Rule, straight}
use Rattle.theory.specs.Links.{link, is_link, graph}
use Rattle.rules.specs.Figures.{Figures, Packed, planned}
use Rattle.calls.specs.State.{Standing, State, Call, Answer}
use Rattle.calls.specs.Step.{Runs, Begins}
use Rattle.shipped.specs.Plain.{sum_below, signed_16, word_at, Agreeing, Change, first_word, second_word}

-- a is at most as high as b: its first number is lower, or the first numbers are the same and its second is not higher
abbrev pub AtMost : ℤ × ℤ → ℤ × ℤ → Type 0
AtMost a b = (a.0 <ℤ b.0) ⊎ ((a.0 ≡ b.0) × (a.1 ≤ℤ b.1))

-- pairs added and subtracted part by part
abbrev pub plus : ℤ × ℤ → ℤ × ℤ → ℤ × ℤ
plus a b = (a.0 +ℤ b.0, a.1 +ℤ b.1)

abbrev pub minus : ℤ × ℤ → ℤ × ℤ → ℤ × ℤ
minus a b = (a.0 -ℤ b.0, a.1 -ℤ b.1)

-- t 0, .., t (n - 1) added part by part
abbrev pub pairs_below : ℕ → (ℕ → ℤ × ℤ) → ℤ × ℤ
pairs_below n t = (sum_below n (λ i. (t i).0), sum_below n (λ i. (t i).1))

-- the two numbers of a word: its lower 16 bits, and its upper ones
abbrev pub first_of : ℕ → ℤ
first_of word = signed_16 (word % 65536)

abbrev pub second_of : ℕ → ℤ
second_of word = signed_16 (word / 65536)

-- whether a number is from -1,000 to 1,000 (`negsuc 999` is -1,000)
abbrev pub is_part : ℤ → Bool
is_part z = int_le (negsuc 999) z && int_le z (pos 1000)

abbrev pub IsPart : ℤ → Type 0
IsPart z = (negsuc 999 ≤ℤ z) × (z ≤ℤ pos 1000)

-- the pair that a word reads as: its two numbers where both are in these bounds, and else (0, 0)
abbrev pub ranked_of : ℕ → ℤ × ℤ
ranked_of word = if is_part (first_of word) && is_part (second_of word) then (first_of word, second_of word) else (pos 0, pos 0)

-- The rules of the scale are those of pairs.
pub record AreRanked (R : Rules (ℤ × ℤ)) (means : Ranked → ℤ × ℤ) : Type 0 where
  -- a value of the machine is its two numbers
  pub means_is : (r : Ranked) → means r ≡ (r.first, r.second)
  -- higher is by the first number and then the second, and joined is added part by part
  pub order : (a b : ℤ × ℤ) → (R.leq a b ≡ true) ↔ AtMost a b
  pub join : (a b : ℤ × ℤ) → R.join a b ≡ plus a b
  pub neutral : R.neutral ≡ (pos 0, pos 0)
  -- the gap of the first over the second is the difference, and (0, 0) where the first is lower
  pub gap : (a b : ℤ × ℤ) → AtMost b a → R.gap a b ≡ minus a b
  pub no_gap : (a b : ℤ × ℤ) → (AtMost b a → ⊥) → R.gap a b ≡ (pos 0, pos 0)
  -- the words that are entries, and what a word reads as
  pub entry : (word : ℕ) → (R.entry word ≡ true) ↔ (IsPart (first_of word) × IsPart (second_of word))
  pub reads : (word : ℕ) → R.reads word ≡ ranked_of word
  pub neutral_word : R.neutral_word ≡ 0
  pub shown : (a : ℤ × ℤ) → R.shown a ≡ a
  pub code : R.code ≡ 3

module _ (P : Problem) where
  -- the score of a plan: what its words read as, over the functions, in number order, added
  abbrev pub ranked_score : Plan → ℤ × ℤ
  ranked_score y = pairs_below (functions P) (λ f. ranked_of (word_at P f y))

  -- The weight of a link is the most by which an entry of the function f changes where only the variable at its place p does.
  pub record RankedWeight (f p : ℕ) (weight : ℤ × ℤ) : Type 0 where
    pub attained : (c : Change P f p) × (minus (ranked_of (first_word c)) (ranked_of (second_word c)) ≡ weight)
    pub most : (c : Change P f p) → AtMost (minus (ranked_of (first_word c)) (ranked_of (second_word c))) weight

  -- What the function f still gives at the plan y once the links that are not kept are removed: the least that its words read as, over the valid
  -- plans that agree with y where its links are kept.
  pub record RankedCut (kept : ℕ → Bool) (f : ℕ) (y : Plan) (value : ℤ × ℤ) : Type 0 where
    pub attained : (z : Agreeing P kept f y) × (ranked_of (word_at P f z.plan) ≡ value)
    pub least : (z : Agreeing P kept f y) → AtMost value (ranked_of (word_at P f z.plan))

  -- the weights of the links of a set, added
  abbrev pub ranked_of_links : (ℕ → ℤ × ℤ) → (ℕ → Bool) → ℤ × ℤ
  ranked_of_links weight links = pairs_below (4 * functions P) (λ n. if is_link P n && links n then weight n else (pos 0, pos 0))

  -- What a report says of the problem.
  pub record RankedReport (rule : Rule) (figures : Figures (ℤ × ℤ)) : Type 0 where
    -- our plan gives each variable a value of its domain, and this is its score
    pub valid : Valid P (planned figures.plan)
    pub scored : figures.score ≡ ranked_score (planned figures.plan)
    -- no plan's score passes the ceiling
    pub at_most_ceiling : (y : Plan) → Valid P y → AtMost (ranked_score y) figures.ceiling
    -- ours is not below the tree value, and that and the removed weight add up to the ceiling
    pub not_below_tree : AtMost figures.tree figures.score
    pub ceiling_is : figures.ceiling ≡ plus figures.tree figures.removed
    -- in a straight solve, which removes no link, our plan's score is the ceiling, so that no plan has a higher one
    pub reached : rule ≡ straight → figures.score ≡ figures.ceiling
    -- the kept links, as the four words of the report tell them
    pub kept : ℕ → Bool
    pub kept_told : Packed kept figures.kept
    -- What each function still gives at a plan once the other links are removed. A plan's cut score is these, added: no plan's passes the
    -- tree value, and that of ours is the tree value.
    pub cut : ℕ → Plan → ℤ × ℤ
    pub cut_is : (f : ℕ) (y : Plan) → f < functions P → Valid P y → RankedCut kept f y (cut f y)
    pub at_most_tree : (y : Plan) → Valid P y → AtMost (pairs_below (functions P) (λ f. cut f y)) figures.tree
    pub reaches_tree : pairs_below (functions P) (λ f. cut f (planned figures.plan)) ≡ figures.tree
    -- each link's weight
    pub weight : ℕ → ℤ × ℤ
    pub weights : (f p : ℕ) → f < functions P → p < arity P f → RankedWeight f p (weight (link f p))
    -- The removed links clear every cycle and weigh the removed weight, and no links that clear every cycle weigh less.
    pub removed_clear : Clears (graph P) (outside kept)
    pub removed_weigh : figures.removed ≡ ranked_of_links weight (outside kept)
    pub at_least_removed : (links : ℕ → Bool) → Clears (graph P) links → AtMost figures.removed (ranked_of_links weight links)

-- From any start, after any list of calls, a report that stands says so of the problem as it is then.
abbrev pub RankedPromise : Rules (ℤ × ℤ) → Type 0
RankedPromise R =
    (start : State (ℤ × ℤ)) (calls : List (Call × Answer (ℤ × ℤ))) (state : State (ℤ × ℤ)) →
    Begins R start → Runs R start calls state →
    (standing : Standing (ℤ × ℤ)) → state.report ≡ Some standing →
    RankedReport state.problem standing.rule standing.figures
