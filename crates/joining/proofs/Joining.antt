-- A join of several values as it is made, one after the other: what it stands for, and of how many entries it is joined. Assumes nothing.
use Rattle.std.proofs.Common.{◌≡◌, ℕ, ◌+◌, ◌≤◌, Bool, true, false, sym, refl, ap, ◌∙◌, subst, ap₂, arith}
use Rattle.scale.specs.Rules.{Rules}
use Rattle.scale.specs.Laws.{Plain}
use Rattle.theory.specs.Joins.{joins, when}
use Rattle.theory.proofs.Joins.{joins_more}
use Rattle.joining.specs.Counts.{counts}
use Rattle.joining.specs.Standing.{StandsFor, JoinOf}

pub joins_start : {E : Type 0} (R : Rules E) (g : ℕ → E) → joins R 0 g ≡ R.neutral
unfolding joins
joins_start R g = refl

-- a member that counts, and one that does not
pub when_true : {E : Type 0} (R : Rules E) {b : Bool} (a : E) → b ≡ true → when R b a ≡ a
when_true R a e = ap (λ (t : Bool). when R t a) e

pub when_false : {E : Type 0} (R : Rules E) {b : Bool} (a : E) → b ≡ false → when R b a ≡ R.neutral
when_false R a e = ap (λ (t : Bool). when R t a) e

module _ {V E : Type 0} (R : Rules E) (means : V → E) (within : ℕ → V → Type 0) where
  -- the same value under other names
  pub stands_for : {e e' : E} {n n' : ℕ} {r : V} → e ≡ e' → n ≡ n' → StandsFor means within e n r → StandsFor means within e' n' r
  stands_for {n} {n'} {r} d h s = record { exact = s.exact ∙ d; few = subst (λ (k : ℕ). within k r) h s.few }

  pub join_stands : {d e : E} {m n : ℕ} {a b r : V} → StandsFor means within d m a → StandsFor means within e n b → m + n ≤ 1024 → JoinOf R means within a b r → StandsFor means within (R.join d e) (m + n) r
  join_stands {m} {n} s t few joined =
      let (exact, within) = joined m n s.few t.few few in
      record { exact = exact ∙ ap₂ R.join s.exact t.exact; few = within }

  module _ (g : ℕ → E) (k : ℕ → ℕ) (p : ℕ) where
    pub started : {r : V} → means r ≡ R.neutral → within 0 r → StandsFor means within (joins R 0 g) (joins counts 0 k) r
    started {r} exact few = stands_for (sym (joins_start R g)) (sym (joins_start counts k)) (record { exact = exact; few = few })

    pub next_joined : {sum new r : V} → StandsFor means within (joins R p g) (joins counts p k) sum → StandsFor means within (g p) (k p) new → joins counts (p + 1) k ≤ 1024 →
        JoinOf R means within sum new r → StandsFor means within (joins R (p + 1) g) (joins counts (p + 1) k) r
    next_joined s t few joined = stands_for (sym (joins_more R p g)) (sym (joins_more counts p k)) (join_stands s t (omega (arith, joins_more counts p k)) joined)

    pub next_passed : Plain R → {sum : V} → StandsFor means within (joins R p g) (joins counts p k) sum → g p ≡ R.neutral → k p ≡ 0 →
        StandsFor means within (joins R (p + 1) g) (joins counts (p + 1) k) sum
    next_passed L s none no-count =
        stands_for (sym (joins_more R p g ∙ ap (R.join (joins R p g)) none ∙ L.unit (joins R p g))) (omega (arith, joins_more counts p k)) s
