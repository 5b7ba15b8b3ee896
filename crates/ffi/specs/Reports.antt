-- Which solves are declined, and what an accepted one leaves. Assumes nothing.
use Rattle.std.specs.Prelude.{◌≡◌, ℕ, ◌+◌, ◌*◌, ◌<◌, ◌≢◌, ◌⊎◌, List, ◌∷◌, ◌++◌, length, ℤ, pos, slice_index_or}
use Rattle.scale.specs.Rules.{Rules}
use Rattle.theory.specs.KeptBy.{Rule}
use Rattle.theory.specs.Problem.{Problem}
use Rattle.rules.specs.Figures as exact
use Rattle.rules.specs.Report.{Solved}
use Rattle.file.specs.Spelling.{Spells, AllEntries}
use Rattle.file.specs.Tests.{file_tests}
use Rattle.sheets.specs.Sheets.{solve_tests, GuaranteedBy}
use Rattle.sheets.specs.Shows.{plan_tests}
use Rattle.ffi.specs.declared.numbers.Figures.{Figures}

-- The choice store has another length than a solve fills, or the numbers to be shown are not two for each of the 2,304 cells of the value store.
abbrev pub OtherLength : ℕ → ℕ → Type 0
OtherLength choices shown = (choices ≢ 1024) ⊎ (shown ≢ 4608)

-- One of the two has another length, or the problem is declined.
abbrev pub store_tests : Rule → ℕ → ℕ → Problem → List (ℕ × Type 0)
store_tests rule choices shown P = (1, OtherLength choices shown) ∷ solve_tests rule P

-- All tests: those of the file, and then those of the solve, at place 0.
abbrev pub run_tests : {E : Type 0} → Rules E → Rule → List ℕ → ℕ → ℕ → List ((ℕ × ℕ) × Type 0)
run_tests R rule bs choices shown = file_tests R bs ++ (((1, 0), OtherLength choices shown) ∷ plan_tests R.code rule bs)

module _ {E : Type 0} (R : Rules E) where
  -- Numbers show the figures of a report: the four words of the kept links stand in their order, and a value is its first and its second number.
  pub record Tells (figures : exact.Figures E) (s : Figures) : Type 0 where
    pub plan : s.plan ≡ figures.plan
    pub kept : s.kept ≡ figures.kept
    pub kept_count : s.kept_count ≡ figures.kept_count
    pub share : s.share ≡ figures.share
    pub tree : (s.tree_first, s.tree_second) ≡ R.shown figures.tree
    pub score : (s.score_first, s.score_second) ≡ R.shown figures.score
    pub removed : (s.removed_first, s.removed_second) ≡ R.shown figures.removed
    pub ceiling : (s.ceiling_first, s.ceiling_second) ≡ R.shown figures.ceiling

  -- Numbers show the cells of a value store, and nothing else: number 2 * n is the first one of cell n, and number 2 * n + 1 the second one.
  pub record TellsCells (values : List E) (shown : List ℤ) : Type 0 where
    pub long : length shown ≡ 2 * length values
    pub first : (n : ℕ) → n < length values → slice_index_or shown (2 * n) (pos 0) ≡ (R.shown (slice_index_or values n R.neutral)).0
    pub second : (n : ℕ) → n < length values → slice_index_or shown (2 * n + 1) (pos 0) ≡ (R.shown (slice_index_or values n R.neutral)).1

  -- What a solve of the problem P leaves to its caller: numbers that show the report of P, with all that such a report guarantees, the choice store
  -- of this report, and numbers that show its value store.
  pub record Leaves (rule : Rule) (P : Problem) (s : Figures) (choices : List ℕ) (shown : List ℤ) : Type 0 where
    pub figures : exact.Figures E
    pub stores : exact.Stores E
    pub solved : Solved R P rule figures stores
    pub guaranteed : GuaranteedBy R P rule figures
    pub tells : Tells figures s
    pub chosen : stores.choices ≡ choices
    pub cells : TellsCells stores.values shown

  -- The bytes spell a problem, all its words are entries of the scale, and this is what its solve leaves.
  pub record Shows (rule : Rule) (bs : List ℕ) (s : Figures) (choices : List ℕ) (shown : List ℤ) : Type 0 where
    pub problem : Problem
    pub spelled : Spells R.code bs problem
    pub entries : AllEntries R problem
    pub left : Leaves rule problem s choices shown
