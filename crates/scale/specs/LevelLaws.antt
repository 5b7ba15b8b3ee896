-- The laws of the two scales over the numbers from 0 to 1000. Assumes nothing.
use Rattle.std.specs.Prelude.{◌≡◌, ℕ, ◌≤◌, true, T, ◌⊎◌, nat_le}
use Rattle.std.proofs.Common.{ap, subst, inl, inr, ⊎_elim, arith, leb→le, leb-true, leb-false, le-leb}
use Rattle.std.proofs.lemmas.Bool.{cases_Bool}
use Rattle.std.proofs.Math.Dec.{T_prop}
use Rattle.scale.specs.Laws.{PlainLaws, GapLaws}
use Rattle.scale.specs.Levels.{Level, level, level_leq, level_add, level_sub, level_min}

of_size : (n : ℕ) → T (nat_le n 1000) → Level
of_size n small = record { size = n; small = small }

-- two levels of one size are equal
pub same_level : (a b : Level) → a.size ≡ b.size → a ≡ b
unfolding of_size
same_level a b e =
    let P : ℕ → Type 0 = λ n. (q : T (nat_le n 1000)) → a ≡ of_size n q in
    subst P e (λ q. ap (of_size a.size) (T_prop (nat_le a.size 1000) a.small q)) b.small

pub at_most : (a : Level) → a.size ≤ 1000
at_most a = leb→le a.size 1000 a.small

pub leq_total : (a b : Level) → (level_leq a b ≡ true) ⊎ (level_leq b a ≡ true)
leq_total a b = ⊎_elim inl (λ h. inr (le-leb _ _ (omega (arith, leb-false a.size b.size h)))) (cases_Bool (level_leq a b))

pub leq_trans : (a b c : Level) → level_leq a b ≡ true → level_leq b c ≡ true → level_leq a c ≡ true
leq_trans a b c h k = le-leb _ _ (omega (arith, leb-true a.size b.size h, leb-true b.size c.size k))

pub leq_antisym : (a b : Level) → level_leq a b ≡ true → level_leq b a ≡ true → a ≡ b
leq_antisym a b h k = same_level a b (omega (arith, leb-true a.size b.size h, leb-true b.size a.size k))

pub capped_laws : PlainLaws level_leq level_add (level 0)
capped_laws = record {
  total = leq_total;
  trans = leq_trans;
  antisym = leq_antisym;
  comm = λ a b. same_level _ _ (omega arith);
  assoc = λ a b c. same_level _ _ (omega arith);
  unit = λ a. same_level _ _ (omega (arith, at_most a));
  mono = λ a b c h. le-leb _ _ (omega (arith, leb-true b.size a.size h));
}

pub weakest_laws : PlainLaws level_leq level_min (level 1000)
weakest_laws = record {
  total = leq_total;
  trans = leq_trans;
  antisym = leq_antisym;
  comm = λ a b. same_level _ _ (omega arith);
  assoc = λ a b c. same_level _ _ (omega arith);
  unit = λ a. same_level _ _ (omega (arith, at_most a));
  mono = λ a b c h. le-leb _ _ (omega (arith, leb-true b.size a.size h));
}

pub capped_gaps : GapLaws level_leq level_add (level 0) level_sub
capped_gaps = record {
  covers = λ a b h. le-leb _ _ (omega (arith, at_most a, at_most b));
  rises = λ a b. le-leb _ _ (omega arith);
  none = λ a b h. same_level _ _ (omega (arith, leb-false b.size a.size h));
}
