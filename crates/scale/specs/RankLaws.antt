-- The laws of the sum of whole numbers, and of two of them. Assumes nothing.
use Rattle.std.specs.Prelude.{◌≡◌, true, false, ℤ, pos}
use Rattle.std.proofs.Common.{arith}
use Rattle.std.proofs.lemmas.Int.{ints}
use Rattle.scale.specs.Laws.{PlainLaws, GapLaws}
use Rattle.scale.specs.Ranks.{rank, rank_leq, rank_add, rank_gap}
use Rattle.scale.specs.LexLaws.{lex_laws, leq_refl}
use Rattle.scale.specs.Whole.{back, whole_laws, whole_strict}

pub rank_laws : PlainLaws rank_leq rank_add (rank (pos 0) (pos 0))
rank_laws = lex_laws whole_laws whole_strict whole_laws

rank_reaches : (a b : ℤ × ℤ) → rank_leq b a ≡ true → rank_leq a (rank_add b (rank_gap a b)) ≡ true
rank_reaches a b h = rw h (rw (back a.0 b.0, back a.1 b.1) (leq_refl rank_laws a))

rank_floor : (a b : ℤ × ℤ) → rank_leq (rank (pos 0) (pos 0)) (rank_gap a b) ≡ true
rank_floor a b = grind (arith, ints)

rank_none : (a b : ℤ × ℤ) → rank_leq b a ≡ false → rank_gap a b ≡ rank (pos 0) (pos 0)
rank_none a b h = rw h

pub rank_gaps : GapLaws rank_leq rank_add (rank (pos 0) (pos 0)) rank_gap
rank_gaps = record { covers = rank_reaches; rises = rank_floor; none = rank_none }
