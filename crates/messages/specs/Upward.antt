-- What comes up to a function by its places, and the best of its entries. Assumes nothing.
use Rattle.std.specs.Prelude.{◌≡◌, ℕ, ◌+◌, ◌-◌, ◌<◌, ◌≤◌, true, false, cond, List, length, slice_index, slice_index_or, take, Some, None, Option}
use Rattle.scale.specs.Rules.{Rules}
use Rattle.theory.specs.Joins.{joins, when}
use Rattle.messages.specs.declared.place.Place.{Place}
use Rattle.messages.specs.declared.places.Places.{Places}
use Rattle.messages.specs.Combinations.{combination}
use Rattle.joining.specs.Counts.{counts}
use Rattle.joining.specs.Standing.{StandsFor}
use Rattle.messages.specs.Holding.{Holds}
use Rattle.messages.specs.Places.{place_in, count_in, sizes_in, cut_index, CutWords}
use Rattle.messages.specs.Sent.{variable_cell, function_cell, choice_cell}

-- For messages q of variables: what comes up at the values xs from the variables below, by the first k places.
abbrev pub upward : {E : Type 0} → Rules E → Places → (ℕ → ℕ → E) → List ℕ → ℕ → E
upward R s q xs k = joins R k (λ p. when R (place_in s p).below (q (place_in s p).variable (slice_index xs p)))

-- the same at the values that stand at the index j, by all places
abbrev pub upward_at : {E : Type 0} → Rules E → Places → (ℕ → ℕ → E) → ℕ → E
upward_at R s q j = upward R s q (combination (sizes_in s) j) (count_in s)

-- what a function with the cut table `cuts` gives at the index j, with what comes up to it
abbrev pub gives : {E : Type 0} → Rules E → Places → List ℕ → (ℕ → ℕ → E) → ℕ → E
gives R s cuts q j = R.join (R.reads (slice_index cuts j)) (upward_at R s q j)

-- The index j has 0 at the removed places, and the value x at the place by which the function hangs.
abbrev pub Candidate : Places → ℕ → ℕ → Type 0
Candidate s x j = (cut_index s j ≡ j) × (slice_index (combination (sizes_in s) j) s.parent ≡ x)

-- an entry, and the index where it stands
pub record Best (V : Type 0) : Type 0 where
  pub value : V
  pub index : ℕ

-- the best entry of a function at the value x of its parent, if there is one: its index is in the row, its value in the cell
abbrev pub best_of : {V : Type 0} → Option ℕ → V → Option (Best V)
best_of None v = None
best_of (Some i) v = Some (record { value = v; index = i })

-- the better of the best entry so far, if any, and one entry more: the new one if it is the first, or higher
abbrev pub better : {V E : Type 0} → Rules E → (V → E) → Option (Best V) → Best V → Best V
better R means None new = new
better R means (Some b) new = cond (R.leq (means new.value) (means b.value)) b new

-- Where the row has an index for the value x, it stands in the choice of f there.
abbrev pub Chosen : List (Option ℕ) → ℕ → List ℕ → Type 0
Chosen row f choices = (x i : ℕ) → slice_index_or row x None ≡ Some i → slice_index choices (choice_cell f x) ≡ i

module _ {V E : Type 0} (R : Rules E) (means : V → E) (within : ℕ → V → Type 0) where
  -- The messages q of the variables below stand in their cells, each joined of as many entries as n says.
  abbrev pub BelowHeld : Places → List V → (ℕ → ℕ → E) → (ℕ → ℕ → ℕ) → Type 0
  BelowHeld s cells q n =
      (p x : ℕ) → p < count_in s → (place_in s p).below ≡ true → x < (place_in s p).size →
      Holds means within cells (variable_cell (place_in s p).variable x) (q (place_in s p).variable x) (n (place_in s p).variable x)

  -- `up` stands for what comes up from the variables below at the index j, by all places but the last.
  abbrev pub OuterUp : Places → List V → ℕ → V → Type 0
  OuterUp s cells j up =
      (q : ℕ → ℕ → E) (n : ℕ → ℕ → ℕ) → BelowHeld s cells q n → upward counts s n (combination (sizes_in s) j) (count_in s - 1) ≤ 1024 →
      StandsFor means within (upward R s q (combination (sizes_in s) j) (count_in s - 1)) (upward counts s n (combination (sizes_in s) j) (count_in s - 1)) up

  -- `value` stands for the entry of a word, joined with what `up` stands for and with the message of the variable at the place `last`, if it is below, at its value x.
  abbrev pub WithBelow : List V → ℕ → V → Place → ℕ → V → Type 0
  WithBelow cells word up last x value =
      (e m : E) (n l : ℕ) → StandsFor means within e n up → (last.below ≡ true → Holds means within cells (variable_cell last.variable x) m l) → 1 + (n + when counts last.below l) ≤ 1024 →
      StandsFor means within (R.join (R.reads word) (R.join e (when R last.below m))) (1 + (n + when counts last.below l)) value

  -- What the best entries are made of: the messages q from below, and how many entries the message at a value x may be joined of.
  pub record Supplied (s : Places) (words : ℕ) (cells : List V) (q : ℕ → ℕ → E) (n : ℕ → ℕ → ℕ) (most : ℕ → ℕ) : Type 0 where
    pub below : BelowHeld s cells q n
    pub few : (x j : ℕ) → j < words → Candidate s x j → 1 + upward_at counts s n j ≤ most x
    pub small : (x : ℕ) → most x ≤ 1024

  -- b is the first of the highest among the numbers below i that are candidates.
  pub record Leads (D : ℕ → Type 0) (value : ℕ → E) (most i : ℕ) (b : Best V) : Type 0 where
    pub here : (b.index < i) × D b.index
    pub stands : StandsFor means within (value b.index) most b.value
    pub bound : (j : ℕ) → j < i → D j → R.leq (value j) (value b.index) ≡ true
    pub first : (j : ℕ) → j < b.index → D j → R.leq (value b.index) (value j) ≡ false

  -- the same of the best entry so far, which is none where no number below i is a candidate
  abbrev pub Running : (ℕ → Type 0) → (ℕ → E) → ℕ → ℕ → Option (Best V) → Type 0
  Running D value most i None = (j : ℕ) → j < i → D j → ⊥
  Running D value most i (Some b) = Leads D value most i b

  -- The best entry, with its value, among the first i indices of the cut table at the value x of the parent; `before` are the cells with the messages from below.
  abbrev pub BestAt : Places → List ℕ → List V → ℕ → ℕ → Option ℕ → V → Type 0
  BestAt s cuts before i x index value =
      (q : ℕ → ℕ → E) (n : ℕ → ℕ → ℕ) (most : ℕ → ℕ) → Supplied s (length cuts) before q n most →
      Running (Candidate s x) (gives R s cuts q) (most x) i (best_of index value)

  -- The same at each value of the parent of f: the indices stand in the row, the values in the cells of f.
  abbrev pub BestEntries : Places → ℕ → List ℕ → List V → ℕ → List (Option ℕ) → List V → Type 0
  BestEntries s f cuts before i row cells =
      (x : ℕ) → x < 16 → (d : V) → BestAt s cuts before i x (slice_index_or row x None) (slice_index_or cells (function_cell f x) d)

  -- The best entries of the cut table stand in the cells of f, and where each stands in its choices.
  abbrev pub Entered : Places → ℕ → List ℕ → List V → List V → List ℕ → Type 0
  Entered s f cuts before cells choices =
      (row : List (Option ℕ)) × BestEntries s f cuts before (length cuts) row cells × Chosen (take (place_in s s.parent).size row) f choices

  -- The same of the cut table of some table.
  abbrev pub EnteredFrom : Places → ℕ → List ℕ → List V → List V → List ℕ → Type 0
  EnteredFrom s f table before cells choices =
      (cuts : List ℕ) × (length cuts ≡ length table) × CutWords R s table cuts × Entered s f cuts before cells choices

-- All cells but those that pass the test are as they were.
abbrev pub OnlyAt : {T : Type 0} → (ℕ → Type 0) → List T → List T → Type 0
OnlyAt {T} test before after = (k : ℕ) (d : T) → (test k → ⊥) → slice_index_or after k d ≡ slice_index_or before k d
