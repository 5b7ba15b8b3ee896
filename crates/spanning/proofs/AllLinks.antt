-- All links of a problem: below a number, one more at a time; and as a set that is kept. Assumes nothing.
use Rattle.std.proofs.Common.{◌≡◌, ℕ, ◌+◌, ◌<◌, ◌≤◌, Bool, true, false, ◌||◌, eqb, sym, refl, ◌∙◌, arith, below_more}
use Rattle.std.proofs.lemmas.Bool.{eq-eqb, ne_eqb, or_left}
use Rattle.theory.specs.Graphs.{Graph, Cycle, every}
use Rattle.theory.specs.Links.{link, is_link}
use Rattle.theory.proofs.Sets.{uses_in, without_other, without_apart}
use Rattle.theory.proofs.Walks.{joined_within}
use Rattle.tables.specs.declared.tables.Tables.{Tables}
use Rattle.tables.specs.View.{problem_of}
use Rattle.tables.proofs.Ordered.{within_sizes}
use Rattle.hanging.specs.Forest.{EachKept}
use Rattle.spanning.proofs.OfTables.{link_there}

-- The links below n are kept, and no other.
pub record Upto (present kept : ℕ → Bool) (n : ℕ) : Type 0 where
  pub each : (m : ℕ) → m < n → kept m ≡ present m
  pub rest : (m : ℕ) → n ≤ m → kept m ≡ false

pub upto_none : (present kept : ℕ → Bool) → ((m : ℕ) → kept m ≡ false) → Upto present kept 0
upto_none present kept none = record { each = λ m h. absurd (omega arith); rest = λ m h. none m }

module _ (present kept : ℕ → Bool) (n : ℕ) (u : Upto present kept n) where
  pub upto_skip : present n ≡ false → Upto present kept (n + 1)
  upto_skip none = record {
    each = below_more _ n u.each (u.rest n (omega arith) ∙ sym none);
    rest = λ m h. u.rest m (omega arith);
  }

  pub upto_more : (kept' : ℕ → Bool) → present n ≡ true → ((m : ℕ) → kept' m ≡ (eqb m n || kept m)) → Upto present kept' (n + 1)
  upto_more kept' there is =
      let other : (m : ℕ) → (m ≡ n → ⊥) → kept' m ≡ kept m = λ m ne. is m ∙ rw (ne_eqb m n ne) refl in
      record {
        each = below_more _ n (λ m h. other m (λ e. omega arith) ∙ u.each m h) (is n ∙ or_left (eqb n n) (kept n) (eq-eqb n n refl) ∙ sym there);
        rest = λ m h. other m (λ e. omega arith) ∙ u.rest m (omega arith);
      }

pub each_kept : (t : Tables) (kept : ℕ → Bool) → ((n : ℕ) → kept n ≡ is_link (problem_of t) n) → EachKept (problem_of t) kept
each_kept t kept all f h = let some = (within_sizes t).sound.some_place f h in (0, some, all (link f 0) ∙ (link_there t f 0 h some).2)

-- A cycle of some links is a cycle of all.
pub cycle_of_all : {G : Graph} {S : ℕ → Bool} → Cycle G S → Cycle G every
cycle_of_all {S} c = record {
  link = c.link;
  uses = uses_in every c.uses refl;
  around = joined_within (λ n u. without_other every c.link n (without_apart S c.link n u)) c.around;
}
