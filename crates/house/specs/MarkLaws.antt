-- The laws of marks: of penalties, and of the two ranked one after the other. Assumes nothing.
use Rattle.std.specs.Prelude.{◌≡◌, true, false, ℤ, pos, ◌+ℤ◌}
use Rattle.std.proofs.Common.{inl, inr, ⊎_elim, arith}
use Rattle.std.proofs.lemmas.Bool.{cases_Bool}
use Rattle.std.proofs.lemmas.Int.{ints}
use Rattle.scale.specs.Laws.{PlainLaws, GapLaws, Strictness}
use Rattle.scale.specs.Levels.{Level, level}
use Rattle.scale.specs.LevelLaws.{at_most, capped_laws}
use Rattle.scale.specs.LexLaws.{lex_laws}
use Rattle.house.specs.Marks.{mark, penalty_leq, mark_leq, mark_add, mark_gap}

penalty_laws : PlainLaws penalty_leq ◌+ℤ◌ (pos 0)
penalty_laws = record {
  total = λ a b. ⊎_elim inl (λ h. inr (grind (arith, ints))) (cases_Bool (penalty_leq a b));
  trans = λ a b c h k. grind (arith, ints);
  antisym = λ a b h k. grind (arith, ints);
  comm = λ a b. omega (arith, ints);
  assoc = λ a b c. omega (arith, ints);
  unit = λ a. omega (arith, ints);
  mono = λ a b c h. grind (arith, ints);
}

penalty_strict : Strictness penalty_leq ◌+ℤ◌
penalty_strict a b c h = grind (arith, ints)

pub mark_laws : PlainLaws mark_leq mark_add (mark (pos 0) (level 0))
mark_laws = lex_laws penalty_laws penalty_strict capped_laws

mark_covers : (a b : ℤ × Level) → mark_leq b a ≡ true → mark_leq a (mark_add b (mark_gap a b)) ≡ true
mark_covers a b h = grind (arith, ints, at_most a.1)

mark_rises : (a b : ℤ × Level) → mark_leq (mark (pos 0) (level 0)) (mark_gap a b) ≡ true
mark_rises a b = grind (arith, ints)

mark_none : (a b : ℤ × Level) → mark_leq b a ≡ false → mark_gap a b ≡ mark (pos 0) (level 0)
mark_none a b h = grind arith

pub mark_gaps : GapLaws mark_leq mark_add (mark (pos 0) (level 0)) mark_gap
mark_gaps = record { covers = mark_covers; rises = mark_rises; none = mark_none }
