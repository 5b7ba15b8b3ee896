-- The lowest of the values of each group, as the numbers below n are gone through. The group of a number is told by its key, its first number. Assumes nothing.
use Rattle.std.proofs.Common.{◌≡◌, ℕ, ◌+◌, ◌<◌, ◌≤◌, true, cond, ◌⊎◌, List, length, get_or, set, sym, ap, ◌∙◌, subst, inl, inr, ⊎_elim, arith}
use Rattle.std.proofs.lemmas.List.{get_or-set_same, get_or-set_other}
use Rattle.std.proofs.lemmas.Bool.{cases_eq, cases_Bool, both_ways}
use Rattle.scale.specs.Rules.{Rules}
use Rattle.scale.specs.Laws.{Plain}
use Rattle.theory.specs.Joins.{Lowest}
use Rattle.theory.proofs.Powers.{leq_refl}

module _ {V E : Type 0} (R : Rules E) (L : Plain R) (means : V → E) (key : ℕ → ℕ) (read : ℕ → E) where
  -- b is the lowest of the values below n in the group of k
  abbrev pub Low : ℕ → ℕ → V → Type 0
  Low n k b = Lowest R (λ j. (j < n) × (key j ≡ k)) read (means b)

  abbrev pub Lows : ℕ → List V → Type 0
  Lows n cells = (k : ℕ) → k < n → key k ≡ k → (d : V) → Low n k (get_or cells k d)

  module _ (i : ℕ) (new : V) (is : means new ≡ read i) where
    -- the first of its group
    alone : key i ≡ i → ((j : ℕ) → j < i → key j ≤ j) → Low (i + 1) i new
    alone own low = record {
      attained = (i, (omega arith, own), sym is);
      bound = λ j (h, e). elim (cases_eq j i) [
        | inl d ↦ subst (λ (a : E). R.leq (means new) a ≡ true) (is ∙ ap read (sym d)) (leq_refl L (means new))
        | inr d ↦ absurd (omega (arith, low j (omega arith)))
      ];
    }

    -- one more of a group
    lowered : (k : ℕ) (old : V) → Low i k old → key i ≡ k → Low (i + 1) k (cond (R.leq (means new) (means old)) new old)
    lowered k old so_far own =
        let both : (m : V) → R.leq (means m) (means old) ≡ true → R.leq (means m) (means new) ≡ true → (j : ℕ) → (j < i + 1) × (key j ≡ k) → R.leq (means m) (read j) ≡ true =
        λ m under-old under-new j (h, e). elim (cases_eq j i) [
          | inl d ↦ subst (λ (a : E). R.leq (means m) a ≡ true) (is ∙ ap read (sym d)) under-new
          | inr d ↦ L.trans (means m) (means old) (read j) under-old (so_far.bound j (omega arith, e))
        ] in
        let (j, (h, e), at) = so_far.attained in
        elim (cases_Bool (R.leq (means new) (means old))) [
          | inl low ↦ subst (λ b. Low (i + 1) k (cond b new old)) (sym low) (record { attained = (i, (omega arith, own), sym is); bound = both new low (leq_refl L (means new)) })
          | inr high ↦
              let up : R.leq (means old) (means new) ≡ true = ⊎_elim (λ t. absurd (both_ways (R.leq (means new) (means old)) high t)) (λ t. t) (L.total (means new) (means old)) in
              subst (λ b. Low (i + 1) k (cond b new old)) (sym high) (record { attained = (j, (omega arith, e), at); bound = both old (leq_refl L (means old)) up })
        ]

  -- a number of another group
  passed : (i k : ℕ) (b : V) → Low i k b → (key i ≡ k → ⊥) → Low (i + 1) k b
  passed i k b so_far other =
      let (j, (h, e), at) = so_far.attained in
      record {
        attained = (j, (omega arith, e), at);
        bound = λ l (u, e'). elim (cases_eq l i) [
          | inl d ↦ absurd (other (ap key (sym d) ∙ e'))
          | inr d ↦ so_far.bound l (omega arith, e')
        ];
      }

  -- one number more
  pub lows_step : (i : ℕ) (cells : List V) (new r : V) → i < length cells → key i ≤ i → key (key i) ≡ key i → ((j : ℕ) → j < i → key j ≤ j) →
      Lows i cells → means new ≡ read i →
      ((key i ≡ i) × (r ≡ new)) ⊎ ((key i ≡ i → ⊥) × ((d : V) →
      r ≡ cond (R.leq (means new) (means (get_or cells (key i) d))) new (get_or cells (key i) d))) →
      Lows (i + 1) (set cells (key i) r)
  lows_step i cells new r room low twice lows so_far is way k h own d =
      elim (cases_eq k (key i)) [
        | inl e ↦ subst (λ (b : V). Low (i + 1) k b) (sym (ap (λ (n : ℕ). get_or (set cells (key i) r) n d) e ∙ get_or-set_same cells (key i) r d (omega arith))) (⊎_elim
            (λ (w : (key i ≡ i) × (r ≡ new)). subst (λ (n : ℕ). Low (i + 1) n r) (sym (e ∙ w.0)) (subst (Low (i + 1) i) (sym w.1) (alone i new is w.0 lows)))
            (λ w.
            let before : k < i = omega (arith, w.0) in
            subst (Low (i + 1) k) (sym (w.1 d)) (lowered i new is k (get_or cells (key i) d) (subst (λ (n : ℕ). Low i k (get_or cells n d)) e (so_far k before own d)) (sym e)))
            way)
        | inr apart ↦
            let other : key i ≡ k → ⊥ = λ e. apart (sym e) in
            let before : (k ≡ i → ⊥) = λ e. other (ap key (sym e) ∙ own) in
            subst (λ (b : V). Low (i + 1) k b) (sym (get_or-set_other cells (key i) k r d apart)) (passed i k (get_or cells k d) (so_far k (omega arith) own d) other)
      ]
