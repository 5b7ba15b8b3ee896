-- A row of cells as what is known of the values is written to it. Assumes nothing.
use Rattle.std.proofs.Common.{◌≡◌, ℕ, ◌+◌, ◌<◌, ◌≤◌, List, length, get_or, set, Some, None, Option, sym, refl, ap, ◌∙◌, inl, inr, arith}
use Rattle.std.proofs.lemmas.List.{get_or_past, get_or-set_same, get_or-set_other}
use Rattle.std.proofs.lemmas.Bool.{cases_eq, cases_lt}
use Rattle.messages.specs.Upward.{OnlyAt}

module _ (row : List (Option ℕ)) (first : ℕ) (before : List ℕ) where
  -- Up to the value i, what the row has stands in the cells from `first` on.
  pub record WrittenTo (i : ℕ) (cells : List ℕ) : Type 0 where
    pub there : (x : ℕ) (a d : ℕ) → x < i → get_or row x None ≡ Some a → get_or cells (first + x) d ≡ a
    pub only : OnlyAt (λ k. (x : ℕ) × (x < length row) × (k ≡ first + x)) before cells

  pub none_written : WrittenTo 0 before
  none_written = record { there = λ x a d h is. absurd (omega arith); only = λ k d apart. refl }

  -- all of the row is written: nothing stands past its end
  pub all_written : (i : ℕ) (cells : List ℕ) → length row ≤ i → WrittenTo i cells → (x : ℕ) (a d : ℕ) → get_or row x None ≡ Some a → get_or cells (first + x) d ≡ a
  all_written i cells all done x a d is = elim (cases_lt x (length row)) [
    | inl low ↦ done.there x a d (omega arith) is
    | inr past ↦ absurd (let both : None ≡ Some a = sym (get_or_past row x None past) ∙ is in cc)
  ]

  module _ (i : ℕ) (low : i < length row) (cells : List ℕ) (so_far : WrittenTo i cells) where
    pub one_written : (b : ℕ) → get_or row i None ≡ Some b → first + i < length cells → WrittenTo (i + 1) (set cells (first + i) b)
    one_written b is room = record {
      there = λ x a d h here. elim (cases_eq x i) [
        | inl e ↦
            let both : Some b ≡ Some a = sym is ∙ sym (ap (λ (y : ℕ). get_or row y None) e) ∙ here in
            let same : b ≡ a = cc in
            ap (λ (y : ℕ). get_or (set cells (first + i) b) (first + y) d) e ∙ get_or-set_same cells (first + i) b d room ∙ same
        | inr apart ↦ get_or-set_other cells (first + i) (first + x) b d (λ e. apart (omega arith)) ∙ so_far.there x a d (omega arith) here
      ];
      only = λ k d apart. get_or-set_other cells (first + i) k b d (λ e. apart (i, low, e)) ∙ so_far.only k d apart;
    }

    pub none_here : get_or row i None ≡ None → WrittenTo (i + 1) cells
    none_here is = record {
      there = λ x a d h here. elim (cases_eq x i) [
        | inl e ↦ absurd (let both : None ≡ Some a = sym is ∙ sym (ap (λ (y : ℕ). get_or row y None) e) ∙ here in cc)
        | inr apart ↦ so_far.there x a d (omega arith) here
      ];
      only = so_far.only;
    }
