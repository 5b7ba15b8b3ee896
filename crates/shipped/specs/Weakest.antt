-- Weakest in plain numbers: what the scale is, and what is promised. Scores are numbers from 0 to 1,000, of which the lowest counts. Assumes nothing.
use Rattle.std.specs.Prelude.{◌≡◌, ℕ, ◌≤◌, min, true, ◌↔◌, List, Some, pos, if◌then◌else◌, nat_le}
use Rattle.scale.specs.Rules.{Rules}
use Rattle.scale.specs.Levels.{Level}
use Rattle.scale.specs.declared.weakest.Weakest.{Weakest}
use Rattle.theory.specs.Problem.{Problem, Plan, Valid, functions}
use Rattle.theory.specs.KeptBy.{straight}
use Rattle.rules.specs.Figures.{Figures, planned}
use Rattle.calls.specs.State.{Standing, State, Call, Answer}
use Rattle.calls.specs.Step.{Runs, Begins}
use Rattle.calls.specs.Promise.{plain, AllPlain}
use Rattle.shipped.specs.Plain.{lowest_below, word_at, AreLevels}

-- the number that a word reads as: itself up to 1,000, and 1,000 above
abbrev pub weakest_of : ℕ → ℕ
weakest_of word = if nat_le word 1000 then word else 1000

-- The rules of the scale are those of numbers from 0 to 1,000. A value's number is its `size`. It has no gap that counts.
pub record AreWeakest (R : Rules Level) (means : Weakest → Level) : Type 0 where
  pub values : AreLevels
  -- a value of the machine is its number, and 1,000 above
  pub means_is : (c : Weakest) → (means c).size ≡ min 1000 c.value
  -- higher is the higher number, and joined is the lower of the two
  pub order : (a b : Level) → (R.leq a b ≡ true) ↔ (a.size ≤ b.size)
  pub join : (a b : Level) → (R.join a b).size ≡ min a.size b.size
  pub neutral : R.neutral.size ≡ 1000
  -- the words that are entries, and what a word reads as
  pub entry : (word : ℕ) → (R.entry word ≡ true) ↔ (word ≤ 1000)
  pub reads : (word : ℕ) → (R.reads word).size ≡ weakest_of word
  pub neutral_word : R.neutral_word ≡ 1000
  pub shown : (a : Level) → R.shown a ≡ (pos a.size, pos 0)
  pub code : R.code ≡ 4

module _ (P : Problem) where
  -- the score of a plan: the lowest of what its words read as, over the functions; 1,000 if there is none
  abbrev pub weakest_score : Plan → ℕ
  weakest_score y = lowest_below (functions P) (λ f. weakest_of (word_at P f y))

  -- What a report says of the problem; its values are told by their numbers, from 0 to 1,000. No link is removed on this scale.
  pub record WeakestReport (figures : Figures Level) : Type 0 where
    -- our plan gives each variable a value of its domain, and this is its score
    pub valid : Valid P (planned figures.plan)
    pub scored : figures.score.size ≡ weakest_score (planned figures.plan)
    -- no plan's score passes the tree value, and ours is the tree value: since no link is removed, a plan's cut score is its score
    pub at_most_tree : (y : Plan) → Valid P y → weakest_score y ≤ figures.tree.size
    pub reaches_tree : weakest_score (planned figures.plan) ≡ figures.tree.size
    -- no plan's score passes the ceiling, and ours reaches it, so that no plan is better
    pub at_most_ceiling : (y : Plan) → Valid P y → weakest_score y ≤ figures.ceiling.size
    pub reached : figures.score.size ≡ figures.ceiling.size

-- The calls that this scale has are all but a bounded solve and a weight.
pub record HasCalls : Type 0 where
  pub variable : (size : ℕ) → plain (Call.add_variable size) ≡ true
  pub function : (scope : List ℕ) → plain (Call.add_function scope) ≡ true
  pub entry : (f index word : ℕ) → plain (Call.set_entry f index word) ≡ true
  pub solve : (values choices : ℕ) → plain (Call.solve straight values choices) ≡ true
  pub report : plain Call.report ≡ true
  pub score : (values : List ℕ) → plain (Call.score values) ≡ true

-- From any start, after any list of the calls that this scale has, a report that stands says so of the problem as it is then.
abbrev pub WeakestPromise : Rules Level → Type 0
WeakestPromise R =
    (start : State Level) (calls : List (Call × Answer Level)) (state : State Level) →
    Begins R start → AllPlain calls → Runs R start calls state →
    (standing : Standing Level) → state.report ≡ Some standing →
    WeakestReport state.problem standing.figures
