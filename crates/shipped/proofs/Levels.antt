-- The numbers from 0 to 1,000, as capped and weakest have them. Assumes nothing.
use Rattle.std.proofs.Common.{◌≡◌, ℕ, ◌≤◌, true, min, ◌↔◌, leb, leb-true, le-leb, arith}
use Rattle.scale.specs.Levels.{Level, level, level_leq}
use Rattle.scale.specs.LevelLaws.{same_level, at_most}
use Rattle.shipped.specs.Plain.{AreLevels}

pub are_levels : AreLevels
are_levels = record { small = at_most; some = λ n h. (level n, omega arith); once = same_level }

pub order_is : (a b : Level) → (level_leq a b ≡ true) ↔ (a.size ≤ b.size)
order_is a b = (leb-true a.size b.size, le-leb a.size b.size)

pub entry_is : (word : ℕ) → (leb word 1000 ≡ true) ↔ (word ≤ 1000)
entry_is word = (leb-true word 1000, le-leb word 1000)

pub shows : (n : ℕ) → (level n).size ≡ min 1000 n
shows n = omega arith
