-- What is given number by number, joined one after the other. Assumes nothing.
use Rattle.std.proofs.Common.{◌≡◌, ℕ, ◌+◌, ◌<◌, ◌≤◌, Some, None, Option, Bool, true, false, cond, sym, refl, subst, arith}
use Rattle.scale.specs.Rules.{Rules}
use Rattle.scale.specs.Laws.{Plain}
use Rattle.theory.specs.Joins.{joins, when}
use Rattle.joining.specs.Counts.{counts}
use Rattle.joining.specs.Standing.{StandsFor, JoinOf}
use Rattle.joining.proofs.Counting.{joins_mono}
use Rattle.joining.proofs.Joining.{started, next_joined, next_passed}
use Rattle.joining.specs.Given.{Gives, JoinOfGiven}

module _ {V E : Type 0} (R : Rules E) (means : V → E) (within : ℕ → V → Type 0) (gives : ℕ → Option V → Type 0) where
  pub none_joined : (r : V) → means r ≡ R.neutral → within 0 r → JoinOfGiven R means within 0 gives r
  none_joined r exact few = λ e n each small. started R means within e n 0 exact few

  module _ (i : ℕ) (old : V) (so_far : JoinOfGiven R means within i gives old) where
    before : (e : ℕ → E) (n : ℕ → ℕ) → ((j : ℕ) (o : Option V) → j < i + 1 → gives j o → Gives R means within (e j) (n j) o) → joins counts (i + 1) n ≤ 1024 →
        StandsFor means within (joins R i e) (joins counts i n) old
    before e n each small = so_far e n (λ j o h. each j o (omega arith)) (omega (arith, joins_mono i (i + 1) n (omega arith)))

    pub one_joined : (value new : V) → gives i (Some value) → JoinOf R means within old value new → JoinOfGiven R means within (i + 1) gives new
    one_joined value new given joined = λ e n each small.
        next_joined R means within e n i (before e n each small) (each i (Some value) (omega arith) given) small joined

    pub none_more : Plain R → gives i None → JoinOfGiven R means within (i + 1) gives old
    none_more L given = λ e n each small.
        let (neutral, no-count) = each i None (omega arith) given in next_passed R means within e n i L (before e n each small) neutral no-count

-- What is given where a test passes, and nothing elsewhere.
pub given_where : {V E : Type 0} (R : Rules E) (means : V → E) (within : ℕ → V → Type 0) (b : Bool) (e : E) (n : ℕ) (r : V) (o : Option V) → o ≡ cond b (Some r) None →
    (b ≡ true → StandsFor means within e n r) → Gives R means within (when R b e) (when counts b n) o
given_where R means within true e n r o is stands = subst (Gives R means within e n) (sym is) (stands refl)
given_where R means within false e n r o is stands = subst (Gives R means within R.neutral 0) (sym is) (refl, refl)
