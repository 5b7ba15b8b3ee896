-- Examples worked through. Assumes nothing.
use Rattle.std.specs.Prelude.{◌≡◌, ℕ, ◌^◌, ◌<◌, true, false, List, [], ◌∷◌, length, replicate, ℤ, pos, negsuc, slice_index}
use Rattle.scale.specs.Levels.{Level, level, capped, weakest}
use Rattle.scale.specs.Points.{points}
use Rattle.scale.specs.Ranks.{rank, ranked}
use Rattle.theory.specs.Problem.{Problem, index}
use Rattle.theory.specs.Graphs.{Cycle, every}
use Rattle.theory.specs.Links.{graph}
use Rattle.theory.specs.Cut.{Weighs}
use Rattle.theory.specs.Kept.{kept_at}
use Rattle.theory.specs.KeptBy.{Rule, straight, bounded}
use Rattle.theory.specs.Bounded.{Bounded}
use Rattle.rules.specs.Figures.{Figures, Stores, share_of}
use Rattle.rules.specs.Report.{Solved}

-- capped 600 joined with 700 is 1,000
abbrev pub CappedJoin : Type 0
CappedJoin = capped.join (level 600) (level 700) ≡ level 1000

-- the gap of capped 1,000 over 600 is 400
abbrev pub CappedGap : Type 0
CappedGap = capped.gap (level 1000) (level 600) ≡ level 400

-- ranked (1, -5) is higher than (0, 900), by a gap of (1, -905); `negsuc n` is -(n + 1)
abbrev pub RankedOrder : Type 0
RankedOrder = ranked.leq (rank (pos 1) (negsuc 4)) (rank (pos 0) (pos 900)) ≡ false

abbrev pub RankedGap : Type 0
RankedGap = ranked.gap (rank (pos 1) (negsuc 4)) (rank (pos 0) (pos 900)) ≡ rank (pos 1) (negsuc 904)

-- points: 1,000,000 is an entry and 1,000,001 is none
abbrev pub PointsEntry : Type 0
PointsEntry = points.entry 1000000 ≡ true

abbrev pub PointsNone : Type 0
PointsNone = points.entry 1000001 ≡ false

-- with sizes 2 and 3, the values 1 and 2 stand at index 5, and 1 and 0 at index 3: the last place varies fastest
abbrev pub IndexOfTwo : Type 0
IndexOfTwo = (index (2 ∷ 3 ∷ []) (1 ∷ 2 ∷ []) ≡ 5) × (index (2 ∷ 3 ∷ []) (1 ∷ 0 ∷ []) ≡ 3)

-- The pair, in points: two variables of size 2, and two functions of both.
abbrev pub pair : Problem
pair = record {
  domains = 2 ∷ 2 ∷ [];
  tables = record { scope = 0 ∷ 1 ∷ []; words = 0 ∷ 4 ∷ 1 ∷ 2 ∷ [] } ∷ record { scope = 0 ∷ 1 ∷ []; words = 3 ∷ 0 ∷ 0 ∷ 5 ∷ [] } ∷ [];
}

-- the weights of its links 0, 1, 4 and 5
pub record PairWeights : Type 0 where
  pub link_0 : Weighs points pair 0 0 (pos 2)
  pub link_1 : Weighs points pair 0 1 (pos 4)
  pub link_4 : Weighs points pair 1 0 (pos 5)
  pub link_5 : Weighs points pair 1 1 (pos 5)

-- four 64-bit words with its kept links: links 1, 4 and 5, so that word 0 is 50
abbrev pub PairKept : Type 0
PairKept =
    (weight : ℕ → ℤ) (words : List ℕ) → length words ≡ 4 → ((k : ℕ) → k < 4 → slice_index words k < 2 ^ 64) →
    Bounded points pair weight (kept_at words) → words ≡ 50 ∷ 0 ∷ 0 ∷ 0 ∷ []

-- the figures of every bounded solve of it
pub record PairFigures (figures : Figures ℤ) : Type 0 where
  pub plan : figures.plan ≡ 1 ∷ 1 ∷ replicate 62 0
  pub kept : figures.kept ≡ 50 ∷ 0 ∷ 0 ∷ 0 ∷ []
  pub kept_count : figures.kept_count ≡ 3
  pub tree : figures.tree ≡ pos 7
  pub score : figures.score ≡ pos 7
  pub removed : figures.removed ≡ pos 2
  pub ceiling : figures.ceiling ≡ pos 9
  pub share : figures.share ≡ 777

abbrev pub PairReport : Type 0
PairReport = (figures : Figures ℤ) (stores : Stores ℤ) → Solved points pair bounded figures stores → PairFigures figures

-- The share is 0 where the score or the ceiling is not above 0.
pub record ShareNone : Type 0 where
  pub no_ceiling : share_of (pos 5) (pos 0) ≡ 0
  pub ceiling_below : share_of (pos 5) (negsuc 0) ≡ 0
  pub no_score : share_of (pos 0) (pos 5) ≡ 0
  pub score_below : share_of (negsuc 4) (pos 5) ≡ 0

-- A tie, in points: one function of two variables of size 2. The root takes its lowest value, and the other variable the value that goes with it.
abbrev pub tie : Problem
tie = record { domains = 2 ∷ 2 ∷ []; tables = record { scope = 0 ∷ 1 ∷ []; words = 0 ∷ 5 ∷ 5 ∷ 0 ∷ [] } ∷ [] }

pub record TieFigures (figures : Figures ℤ) : Type 0 where
  pub plan : figures.plan ≡ 0 ∷ 1 ∷ replicate 62 0
  pub score : figures.score ≡ pos 5

abbrev pub TieReport : Type 0
TieReport = (rule : Rule) (figures : Figures ℤ) (stores : Stores ℤ) → Solved points tie rule figures stores → TieFigures figures

-- The chain, on the weakest scale: two functions of one variable of size 2. Its graph has no cycle.
abbrev pub chain : Problem
chain = record { domains = 2 ∷ []; tables = record { scope = 0 ∷ []; words = 3 ∷ 8 ∷ [] } ∷ record { scope = 0 ∷ []; words = 5 ∷ 4 ∷ [] } ∷ [] }

abbrev pub ChainStraight : Type 0
ChainStraight = Cycle (graph chain) every → ⊥

-- A straight solve removes nothing, so that the removed weight is the neutral 1,000.
pub record ChainFigures (figures : Figures Level) : Type 0 where
  pub plan : figures.plan ≡ 1 ∷ replicate 63 0
  pub tree : figures.tree.size ≡ 4
  pub removed : figures.removed.size ≡ 1000

abbrev pub ChainReport : Type 0
ChainReport = (figures : Figures Level) (stores : Stores Level) → Solved weakest chain straight figures stores → ChainFigures figures
