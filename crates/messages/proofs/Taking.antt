-- The best entries so far, as entries of a row are taken or passed over. Assumes nothing.
use Rattle.std.proofs.Common.{◌≡◌, ℕ, ◌+◌, ◌-◌, ◌<◌, ◌≤◌, List, length, get_or, set, take, drop, Some, None, Option, sym, ap, ap₂, ◌∙◌, subst, inl, inr, length-drop, arith}
use Rattle.std.proofs.lemmas.List.{get_or-set_same, get_or-set_other, get_or-take, get_or-drop, length-take-le}
use Rattle.std.proofs.lemmas.Bool.{cases_eq}
use Rattle.scale.specs.Rules.{Rules}
use Rattle.scale.specs.Laws.{Plain, EntryLaws}
use Rattle.theory.specs.Joins.{when}
use Rattle.theory.specs.Problem.{product}
use Rattle.theory.proofs.Joins.{joins_more}
use Rattle.messages.specs.declared.place.Place.{Place}
use Rattle.messages.specs.declared.places.Places.{Places}
use Rattle.messages.specs.Combinations.{combination}
use Rattle.joining.specs.Counts.{counts}
use Rattle.joining.specs.Standing.{StandsFor}
use Rattle.messages.specs.Places.{count_in, place_in, sizes_in, cut_index}
use Rattle.messages.specs.Rows.{RowAt, parent_at}
use Rattle.messages.specs.Sent.{variable_cell, function_cell}
use Rattle.messages.specs.Upward.{upward, upward_at, gives, best_of, better, Candidate, OuterUp, WithBelow, Supplied, Running, BestAt, BestEntries, OnlyAt}
use Rattle.messages.proofs.Running.{upward_same, passed, with_one}

module _ {V E : Type 0} (R : Rules E) (L : Plain R) (means : V → E) (within : ℕ → V → Type 0) (s : Places) (f : ℕ) (cuts : List ℕ) where
  -- The best entries by other cells that hold the same messages from below.
  module _ (before before' : List V) (same : (p x : ℕ) → p < count_in s → x < 16 → (d : V) → get_or before' (variable_cell (place_in s p).variable x) d ≡ get_or before (variable_cell (place_in s p).variable x) d) where
    supplied_by : (q : ℕ → ℕ → E) (n : ℕ → ℕ → ℕ) (most : ℕ → ℕ) → Supplied R means within s (length cuts) before' q n most → Supplied R means within s (length cuts) before q n most
    supplied_by q n most given = record {
      below = λ p x h on k d.
          subst (StandsFor means within (q (place_in s p).variable x) (n (place_in s p).variable x)) (same p x h (omega (arith, (s.small p h).2)) d) (given.below p x h on k d);
      few = given.few;
      small = given.small;
    }

    pub best_by : (i : ℕ) (row : List (Option ℕ)) (cells : List V) → BestEntries R means within s f cuts before i row cells → BestEntries R means within s f cuts before' i row cells
    best_by i row cells best x h d q n most given = best x h d q n most (supplied_by q n most given)

    -- and an entry with what comes up to it
    pub made_by : (word : ℕ) (up : V) (p x : ℕ) → p < count_in s → x < 16 → (value : V) → WithBelow R means within before' word up (place_in s p) x value → WithBelow R means within before word up (place_in s p) x value
    made_by word up p x h k value made e m n l stands held = made e m n l stands (λ on d. subst (StandsFor means within m l) (sym (same p x h k d)) (held on d))

  module _ (before : List V) where
    -- Over indices that have another value than 0 at a removed place.
    pub none_counts : (i k : ℕ) (row : List (Option ℕ)) (cells : List V) → i ≤ k → BestEntries R means within s f cuts before i row cells → ((j : ℕ) → i ≤ j → j < k → cut_index s j ≡ j → ⊥) →
        BestEntries R means within s f cuts before k row cells
    none_counts i k row cells up so_far others x h d q n most given =
        passed R L means within (Candidate s x) (gives R s cuts q) (most x) i k (best_of (get_or row x None) (get_or cells (function_cell f x) d)) up (so_far x h d q n most given)
        (λ j low under there. others j low under there.0)

    -- Over some indices, where the best is known at the only value x₀ that the parent has at those of them that count.
    module _ (i k : ℕ) (up : i ≤ k) (row : List (Option ℕ)) (cells : List V) (so_far : BestEntries R means within s f cuts before i row cells)
        (x₀ : ℕ) (sixteen : length row ≡ 16) (small : x₀ < 16) (only : (j : ℕ) → i ≤ j → j < k → cut_index s j ≡ j → parent_at s j ≡ x₀)
        (o : Option ℕ) (cells' : List V) (here : (d : V) → BestAt R means within s cuts before k x₀ o (get_or cells' (function_cell f x₀) d)) (others : OnlyAt (λ k. k ≡ function_cell f x₀) cells cells') where
      pub taken : BestEntries R means within s f cuts before k (set row x₀ o) cells'
      taken x h d q n most given = elim (cases_eq x x₀) [
        | inl e ↦
            subst (λ (y : ℕ). Running R means within (Candidate s y) (gives R s cuts q) (most y) k (best_of (get_or (set row x₀ o) y None) (get_or cells' (function_cell f y) d))) (sym e)
            (subst (λ t. Running R means within (Candidate s x₀) (gives R s cuts q) (most x₀) k (best_of t (get_or cells' (function_cell f x₀) d))) (sym (get_or-set_same row x₀ o None (omega arith)))
            (here d q n most given))
        | inr apart ↦
            subst (Running R means within (Candidate s x) (gives R s cuts q) (most x) k)
            (sym (ap₂ best_of (get_or-set_other row x₀ x o None apart) (others (function_cell f x) d (λ e. apart (omega arith)))))
            (passed R L means within (Candidate s x) (gives R s cuts q) (most x) i k (best_of (get_or row x None) (get_or cells (function_cell f x) d)) up (so_far x h d q n most given)
            (λ j low under there. apart (sym there.1 ∙ only j low under there.0)))
      ]

-- a change at one cell of a row is a change in the row
pub only_row : {T : Type 0} (cell : ℕ → ℕ) (wide x₀ : ℕ) (first cells cells' : List T) → x₀ < wide → OnlyAt (λ k. (x : ℕ) × (x < wide) × (k ≡ cell x)) first cells → OnlyAt (λ k. k ≡ cell x₀) cells cells' →
    OnlyAt (λ k. (x : ℕ) × (x < wide) × (k ≡ cell x)) first cells'
only_row cell wide x₀ first cells cells' fits so_far step k d apart = step k d (λ e. apart (x₀, fits, e)) ∙ so_far k d apart

-- the word at the place x of a row, and how many there are
pub row_word : (at many x : ℕ) (cuts : List ℕ) → x < many → get_or (take (at + many - at) (drop at cuts)) x 0 ≡ get_or cuts (at + x) 0
row_word at many x cuts low = get_or-take (at + many - at) (drop at cuts) x 0 (omega arith) ∙ get_or-drop at cuts x 0

pub row_length : (at many : ℕ) (cuts : List ℕ) → at + many ≤ length cuts → length (take (at + many - at) (drop at cuts)) ≡ many
row_length at many cuts inside = let n = length-drop at cuts in length-take-le (at + many - at) (drop at cuts) (omega arith) ∙ omega arith

-- One entry more of a row, at its place x.
module _ {V E : Type 0} (R : Rules E) (L : Plain R) (means : V → E) (within : ℕ → V → Type 0) (s : Places) (cuts : List ℕ) (before : List V)
    (ties : EntryLaws R within) (at many : ℕ) (row_at : RowAt s at many) (full : length cuts ≡ product (sizes_in s)) (some : 0 < count_in s)
    (above : V) (outer : OuterUp R means within s before at above) (x : ℕ) (low : x < many) where
  abbrev last : Place
  last = place_in s (count_in s - 1)

  pub entry_small : x < last.size
  entry_small = omega (arith, row_at.few)

  pub entry_parent : s.parent + 1 < count_in s → parent_at s (at + x) ≡ parent_at s at
  entry_parent inner = row_at.others x s.parent low inner

  up_there : {M : Type 0} (S : Rules M) (q : ℕ → ℕ → M) → upward_at S s q (at + x) ≡ S.join (upward S s q (combination (sizes_in s) at) (count_in s - 1)) (when S last.below (q last.variable x))
  up_there S q =
      let k = count_in s - 1 in
      let ys = combination (sizes_in s) (at + x) in
      ap (upward S s q ys) (omega arith)
      ∙ joins_more S k (λ p. when S (place_in s p).below (q (place_in s p).variable (get_or ys p 0)))
      ∙ ap₂ S.join (upward_same S s q ys (combination (sizes_in s) at) k (λ p h. row_at.others x p low (omega arith))) (ap (λ (y : ℕ). when S last.below (q last.variable y)) (row_at.last x low))

  module _ (value : V) (made : WithBelow R means within before (get_or cuts (at + x) 0) above last x value) where
    stands : (q : ℕ → ℕ → E) (n : ℕ → ℕ → ℕ) (most : ℕ → ℕ) → Supplied R means within s (length cuts) before q n most → (x₀ : ℕ) → parent_at s (at + x) ≡ x₀ →
        StandsFor means within (gives R s cuts q (at + x)) (most x₀) value
    stands q n most given x₀ is =
        let few = given.few x₀ (at + x) (omega (arith, row_at.inside)) (row_at.own x low, is) in
        let counted = up_there counts n in
        let bound = given.small x₀ in
        let told = made (upward R s q (combination (sizes_in s) at) (count_in s - 1)) (q last.variable x) (upward counts s n (combination (sizes_in s) at) (count_in s - 1)) (n last.variable x)
        (outer q n given.below (omega arith)) (λ on. given.below (count_in s - 1) x (omega arith) on entry_small) (omega arith) in
        record {
          exact = told.exact ∙ ap (R.join (R.reads (get_or cuts (at + x) 0))) (sym (up_there R q));
          few = ties.wider _ (most x₀) value (omega arith) told.few;
        }

    pub one_entry : (x₀ : ℕ) → parent_at s (at + x) ≡ x₀ → (o : Option ℕ) (v : V) → BestAt R means within s cuts before (at + x) x₀ o v → (o' : Option ℕ) (v' : V) →
        best_of o' v' ≡ Some (better R means (best_of o v) (record { value = value; index = at + x })) → BestAt R means within s cuts before (at + x + 1) x₀ o' v'
    one_entry x₀ is o v so_far o' v' here q n most given =
        subst (Running R means within (Candidate s x₀) (gives R s cuts q) (most x₀) (at + x + 1)) (sym here)
        (with_one R L means within (Candidate s x₀) (gives R s cuts q) (most x₀) (at + x) (row_at.own x low, is) value (stands q n most given x₀ is) (best_of o v) (so_far q n most given))
