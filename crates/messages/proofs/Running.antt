-- The first of the highest so far. Assumes nothing.
use Rattle.std.proofs.Common.{◌≡◌, ℕ, ◌+◌, ◌<◌, ◌≤◌, true, false, cond, List, get_or, Some, None, Option, sym, ap, ap₂, ◌∙◌, subst, inl, inr, ⊎_elim, arith}
use Rattle.std.proofs.lemmas.Bool.{cases_eq, cases_lt, both_ways, cases_Bool}
use Rattle.scale.specs.Rules.{Rules}
use Rattle.scale.specs.Laws.{Plain}
use Rattle.theory.specs.Joins.{when}
use Rattle.theory.proofs.Joins.{joins_cong}
use Rattle.theory.proofs.Powers.{leq_refl}
use Rattle.messages.specs.declared.places.Places.{Places}
use Rattle.joining.specs.Standing.{StandsFor}
use Rattle.messages.specs.Places.{place_in}
use Rattle.messages.specs.Upward.{upward, Best, better, Leads, Running}

pub upward_same : {E : Type 0} (R : Rules E) (s : Places) (q : ℕ → ℕ → E) (xs ys : List ℕ) (k : ℕ) → ((p : ℕ) → p < k → get_or xs p 0 ≡ get_or ys p 0) → upward R s q xs k ≡ upward R s q ys k
upward_same R s q xs ys k same = joins_cong R k (λ p h. ap (λ (x : ℕ). when R (place_in s p).below (q (place_in s p).variable x)) (same p h))

module _ {V E : Type 0} (R : Rules E) (L : Plain R) (means : V → E) (within : ℕ → V → Type 0) (D : ℕ → Type 0) (value : ℕ → E) (most : ℕ) where
  -- Over numbers that are no candidates.
  pub passed : (i k : ℕ) (b : Option (Best V)) → i ≤ k → Running R means within D value most i b → ((j : ℕ) → i ≤ j → j < k → D j → ⊥) → Running R means within D value most k b
  passed i k None up none others = λ j h here. elim (cases_lt j i) [ inl low ↦ none j low here | inr past ↦ others j (omega arith) h here ]
  passed i k (Some b) up leads others = record {
    here = (let h = leads.here.0 in omega arith, leads.here.1);
    stands = leads.stands;
    bound = λ j h here. elim (cases_lt j i) [ inl low ↦ leads.bound j low here | inr past ↦ absurd (others j (omega arith) h here) ];
    first = leads.first;
  }

  module _ (i : ℕ) (here : D i) (new : V) (stands : StandsFor means within (value i) most new) where
    -- the new one leads
    abbrev fresh : Best V
    fresh = record { value = new; index = i }

    higher : ((j : ℕ) → j < i → D j → R.leq (value j) (value i) ≡ true) → ((j : ℕ) → j < i → D j → R.leq (value i) (value j) ≡ false) → Leads R means within D value most (i + 1) fresh
    higher above strictly = record {
      here = (omega arith, here);
      stands = stands;
      bound = λ j h there. elim (cases_eq j i) [ inl d ↦ subst (λ (k : ℕ). R.leq (value k) (value i) ≡ true) (sym d) (leq_refl L (value i)) | inr d ↦ above j (omega arith) there ];
      first = strictly;
    }

    module _ (old : Best V) (leads : Leads R means within D value most i old) where
      held : R.leq (value i) (value old.index) ≡ true → Leads R means within D value most (i + 1) old
      held low = record {
        here = (let k = leads.here.0 in omega arith, leads.here.1);
        stands = leads.stands;
        bound = λ j h there. elim (cases_eq j i) [ inl d ↦ subst (λ (k : ℕ). R.leq (value k) (value old.index) ≡ true) (sym d) low | inr d ↦ leads.bound j (omega arith) there ];
        first = leads.first;
      }

      raised : R.leq (value i) (value old.index) ≡ false → Leads R means within D value most (i + 1) fresh
      raised high =
          let up : R.leq (value old.index) (value i) ≡ true = ⊎_elim (λ t. absurd (both_ways (R.leq (value i) (value old.index)) high t)) (λ t. t) (L.total (value i) (value old.index)) in
          higher
          (λ j h there. L.trans (value j) (value old.index) (value i) (leads.bound j h there) up)
          (λ j h there. elim (cases_Bool (R.leq (value i) (value j))) [
            | inl t ↦ absurd (both_ways (R.leq (value i) (value old.index)) high (L.trans (value i) (value j) (value old.index) t (leads.bound j h there)))
            | inr t ↦ t
          ])

      -- the values compare as what they stand for
      compared : R.leq (value i) (value old.index) ≡ R.leq (means new) (means old.value)
      compared = sym (ap₂ R.leq stands.exact leads.stands.exact)

    -- with the new one, as it is taken
    pub with_one : (old : Option (Best V)) → Running R means within D value most i old → Running R means within D value most (i + 1) (Some (better R means old fresh))
    with_one None none = higher (λ j h there. absurd (none j h there)) (λ j h there. absurd (none j h there))
    with_one (Some old) leads = elim (cases_Bool (R.leq (means new) (means old.value))) [
      | inl low ↦ subst (λ b. Leads R means within D value most (i + 1) (cond b old fresh)) (sym low) (held old leads (compared old leads ∙ low))
      | inr high ↦ subst (λ b. Leads R means within D value most (i + 1) (cond b old fresh)) (sym high) (raised old leads (compared old leads ∙ high))
    ]
