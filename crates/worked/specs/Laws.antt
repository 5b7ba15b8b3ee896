-- Laws by examples: a gap that more than makes up, and problems that are the same by what their words read as. Assumes nothing.
use Rattle.std.specs.Prelude.{◌≡◌, ℕ, cond, [], ◌∷◌, ℤ, pos, ◌+ℤ◌, ◌-ℤ◌, int_le}
use Rattle.scale.specs.Rules.{Rules}
use Rattle.scale.specs.Laws.{Plain, Gaps}
use Rattle.scale.specs.Points.{points}
use Rattle.theory.specs.Problem.{Problem, Same, words_in_order}

-- Points, but with a gap of one more than the difference. So what is removed weighs one more, and the ceiling lies higher than it need.
abbrev pub generous : Rules ℤ
generous = record points { gap = λ a b. cond (int_le b a) ((a -ℤ b) +ℤ pos 1) (pos 0) }

-- It keeps the laws of a measuring scale: its gap makes up for what the lower one lacks, and for one more.
pub record GenerousGap : Type 0 where
  pub plain : Plain generous
  pub gaps : Gaps generous
  pub more : generous.join (pos 0) (generous.gap (pos 5) (pos 0)) ≡ pos 6

-- one function of one variable of one value, with this word
abbrev pub of_word : ℕ → Problem
of_word word = record { domains = 1 ∷ []; tables = record { scope = 0 ∷ []; words = word ∷ [] } ∷ [] }

-- The word 1,000,001 is no entry of points and reads as 0, so that it makes the same problem as the word 0; the word 1 makes another.
pub record SameByValues : Type 0 where
  pub same : Same points (of_word 0) (of_word 1000001)
  pub other_words : words_in_order (of_word 0) ≡ words_in_order (of_word 1000001) → ⊥
  pub other : Same points (of_word 0) (of_word 1) → ⊥
