-- Boards with nothing on them yet. Assumes nothing.
use Rattle.std.proofs.Common.{◌≡◌, ℕ, ◌+◌, ◌<◌, List, map, length, get_or, replicate, sym, ap, ◌∙◌, subst, inl, inr, arith}
use Rattle.std.proofs.lemmas.Bool.{cases_lt}
use Rattle.std.proofs.lemmas.List.{get_or-take, get_or_past, get_or-replicate, length-map, length-replicate}
use Rattle.scale.specs.Rules.{Rules}
use Rattle.scale.specs.Laws.{EntryLaws}
use Rattle.joining.specs.Standing.{StandsFor}
use Rattle.keeping.specs.Weights.{weight_of}
use Rattle.spanning.specs.WeightCells.{weight_cells, OthersSame}
use Rattle.spanning.proofs.WeightCells.{weight_count}
use Rattle.solving.specs.Blank.{Blank}
use Rattle.solving.proofs.Mapped.{mapped_at, weight_read}

module _ {V E : Type 0} (R : Rules E) (means : V → E) (within : ℕ → V → Type 0) where
  -- where every value is neutral
  module _ (ties : EntryLaws R within) (neutral : V) (exact : means neutral ≡ R.neutral) (none : within 0 neutral) (cells : List V) (taken : List ℕ) (is : cells ≡ replicate 2304 neutral) (is' : taken ≡ replicate 1024 0) where
    at : (k : ℕ) (d : V) → k < 2304 → get_or cells k d ≡ neutral
    at k d h = ap (λ s. get_or s k d) is ∙ get_or-replicate 2304 k neutral d h

    long : length cells ≡ 2304
    long = ap length is ∙ length-replicate 2304 neutral

    pub all_blank : Blank R means within cells taken
    all_blank = record {
      values = long;
      neutral = λ k h d. subst (StandsFor means within R.neutral 0) (sym (at k d (omega arith))) (record { exact = exact; few = none });
      weights = λ n d h. subst (within 2) (sym (at (2048 + n) d (omega arith))) (ties.wider 0 2 neutral (omega arith) none);
      choices = is';
    }

    pub all_unweighed : (n : ℕ) → weight_of R means (weight_cells cells) n ≡ R.neutral
    all_unweighed n = elim (cases_lt n 256) [
      | inl low ↦ weight_read means cells R.neutral n low ∙ mapped_at means cells R.neutral (2048 + n) R.neutral (omega (arith, long)) (λ d. ap means (at (2048 + n) d (omega arith)) ∙ exact)
      | inr past ↦
          let count = length-map (weight_cells cells) means in
          let all = weight_count cells (omega (arith, long)) in
          get_or_past (map means (weight_cells cells)) n R.neutral (omega arith)
    ]

  -- Weighing the links leaves the rest blank.
  pub weighed_blank : (before cells : List V) (taken : List ℕ) → Blank R means within before taken → OthersSame before cells →
      ((n : ℕ) (d : V) → n < 256 → within 2 (get_or cells (2048 + n) d)) → Blank R means within cells taken
  weighed_blank before cells taken blank others few = record {
    values = others.long ∙ blank.values;
    neutral = λ k h d.
        let same : get_or cells k d ≡ get_or before k d = sym (get_or-take 2048 cells k d h) ∙ ap (λ s. get_or s k d) others.front ∙ get_or-take 2048 before k d h in
        subst (StandsFor means within R.neutral 0) (sym same) (blank.neutral k h d);
    weights = few;
    choices = blank.choices;
  }
