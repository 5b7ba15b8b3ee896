-- Marks: penalties, of which fewer are higher, and then marks in halves, which count up to 1,000 halves. Assumes nothing.
use Rattle.std.specs.Prelude.{ℕ, ◌*◌, ◌/◌, ◌%◌, Bool, cond, ◌&&◌, nat_le, ℤ, pos, ◌+ℤ◌, ◌-ℤ◌, int_le}
use Rattle.scale.specs.Rules.{Rules}
use Rattle.scale.specs.Lex.{lex, both}
use Rattle.scale.specs.Levels.{Level, level, level_leq, level_add, level_sub}

abbrev pub mark : ℤ → Level → ℤ × Level
mark penalties halves = (penalties, halves)

-- fewer penalties are higher
abbrev pub penalty_leq : ℤ → ℤ → Bool
penalty_leq a b = int_le b a

abbrev pub mark_leq : ℤ × Level → ℤ × Level → Bool
mark_leq = lex penalty_leq level_leq

abbrev pub mark_add : ℤ × Level → ℤ × Level → ℤ × Level
mark_add = both ◌+ℤ◌ level_add

-- A gap may have penalties below 0: so many fewer than the other value.
abbrev pub mark_gap : ℤ × Level → ℤ × Level → ℤ × Level
mark_gap a b = cond (mark_leq b a) (mark (a.0 -ℤ b.0) (level_sub a.1 b.1)) (mark (pos 0) (level 0))

-- the lower half of a word is halves, the upper half penalties
abbrev pub mark_entry : ℕ → Bool
mark_entry w = nat_le (w % 65536) 200 && nat_le (w / 65536) 20

abbrev pub mark_reads : ℕ → ℤ × Level
mark_reads w = cond (mark_entry w) (mark (pos (w / 65536)) (level (w % 65536))) (mark (pos 0) (level 0))

-- tenths of a mark, five for each half, and penalties
abbrev pub mark_shown : ℤ × Level → ℤ × ℤ
mark_shown a = (pos (5 * a.1.size), a.0)

abbrev pub marks : Rules (ℤ × Level)
marks = record { leq = mark_leq; join = mark_add; neutral = mark (pos 0) (level 0); gap = mark_gap; entry = mark_entry; reads = mark_reads; neutral_word = 0; shown = mark_shown; code = 101 }
