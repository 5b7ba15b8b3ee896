use Rattle.std.proofs.Common.{◌≡◌, ℕ, ◌+◌, ◌*◌, ◌/◌, ◌<◌, List, length, get_or, take, Option, sym, ap, ◌∙◌, subst, add-mul, arith}
use Rattle.board.specs.SameLent.{SameLent}
use Rattle.board.proofs.SameLent.{same_both}
use Rattle.theory.specs.Problem.{index}
use Rattle.messages.specs.declared.place.Place.{Place}
use Rattle.messages.specs.declared.places.Places.{Places}
use Rattle.messages.specs.Combinations.{combination, cleared}
use Rattle.messages.specs.Places.{count_in, place_in, sizes_in, cut_index}
use Rattle.messages.specs.Sent.{variable_cell, function_cell}
use Rattle.messages.specs.Upward.{BestEntries, OnlyAt}
use Rattle.messages.proofs.Rows.{key_of, row_below, one_more_place, outer_place, rows_words, parent_there, outer_up, row_at, few_count, none_behind, none_there}
use Rattle.messages.proofs.Taking.{best_by, none_counts}
use Rattle.messages.proofs.entries.best_entries.Goals as goal
use Rattle.messages.proofs.entries.best_entries.Goals.{then-cut_index-number, else-cut_index-number}

key_is : (o : Places) (r : ℕ) (values : List ℕ) → take (count_in o) values ≡ combination (sizes_in o) r → {key : ℕ} → key ≡ index (sizes_in o) (cleared (λ p. (place_in o p).kept) (take (count_in o) values)) → key ≡ r → cut_index o r ≡ r
key_is o r values stand is own = sym (key_of o r values stand is) ∙ own

-- the messages from below stand where they stood
unmoved : {V : Type 0} (s : Places) (f wide : ℕ) (before cells : List V) → OnlyAt (λ k. (x : ℕ) × (x < wide) × (k ≡ function_cell f x)) before cells →
    (p x : ℕ) → p < count_in s → x < 16 → (d : V) → get_or cells (variable_cell (place_in s p).variable x) d ≡ get_or before (variable_cell (place_in s p).variable x) d
unmoved s f wide before cells only p x h k d = only (variable_cell (place_in s p).variable x) d (λ (y, low, e). absurd (omega (arith, (s.small p h).0)))

pub best_in_row-requires-clause-value : goal.best_in_row-requires-clause-value
best_in_row-requires-clause-value g c =
    let s = c.args.places.now in
    let o = c.outer-outer.result in
    let r = c.loop-number.number in
    let low = row_below s o c.outer-outer.ensures c.last-last.result c.last-last.ensures (length c.args.cuts.now) c.requires.cuts r c.loop-number-test.true in
    parent_there s o c.outer-outer.ensures c.last-last.result c.last-last.ensures r low c.loop-number.combination (c.loop-number.invariant.3 low)

pub best_in_row-requires-clause-fits : goal.best_in_row-requires-clause-fits
best_in_row-requires-clause-fits g c inner =
    let s = c.args.places.now in
    let o = c.outer-outer.result in
    let m = one_more_place s o c.outer-outer.ensures c.last-last.result c.last-last.ensures in
    let inside : s.parent < count_in o = omega arith in
    subst (λ (a : Place). get_or c.loop-number.combination s.parent 0 < a.size) (sym (outer_place s o c.outer-outer.ensures c.last-last.result c.last-last.ensures s.parent inside)) (c.loop-number.invariant.4 s.parent inside)

pub best_in_row-requires-clause-row : goal.best_in_row-requires-clause-row
best_in_row-requires-clause-row g c =
    let s = c.args.places.now in
    let o = c.outer-outer.result in
    let outer = c.outer-outer.ensures in
    let last = c.last-last.result in
    let r = c.loop-number.number in
    let low = row_below s o outer last c.last-last.ensures (length c.args.cuts.now) c.requires.cuts r c.loop-number-test.true in
    let stand = c.loop-number.invariant.3 low in
    row_at s o outer last c.last-last.ensures r low c.loop-number.combination stand (key_is o r c.loop-number.combination stand c.cut_index.ensures.value c.if-cut_index-number.true) c.counted.result c.counted.ensures

pub best_in_row-requires-clause-up : goal.best_in_row-requires-clause-up
best_in_row-requires-clause-up g c =
    let v = g.V.Scale in
    let s = c.args.places.now in
    let o = c.outer-outer.result in
    let r = c.loop-number.number in
    let low = row_below s o c.outer-outer.ensures c.last-last.result c.last-last.ensures (length c.args.cuts.now) c.requires.cuts r c.loop-number-test.true in
    outer_up s o c.outer-outer.ensures c.last-last.result c.last-last.ensures r low c.loop-number.combination (c.loop-number.invariant.3 low) v.rules v.means v.within c.loop-number.values.cells.now c.from_below.result c.from_below.ensures

pub best_in_row-requires-clause-best : goal.best_in_row-requires-clause-best
best_in_row-requires-clause-best g c =
    let v = g.V.Scale in
    let s = c.args.places.now in
    let inv = c.loop-number.invariant in
    best_by v.rules g.met.V.Scale.laws v.means v.within s c.args.function c.args.cuts.now c.args.values.now.cells.now c.loop-number.values.cells.now (unmoved s c.args.function (place_in s s.parent).size _ _ inv.1)
    (c.loop-number.number * c.last-last.result.size) c.loop-number.best c.loop-number.values.cells.now inv.0

pub loop-number-preserved : goal.loop-number-preserved
loop-number-preserved g c =
    let v = g.V.Scale in
    let laws = g.met.V.Scale.laws in
    let s = c.args.places.now in
    let f = c.args.function in
    let cuts = c.args.cuts.now in
    let o = c.outer-outer.result in
    let outer = c.outer-outer.ensures in
    let last = c.last-last.result in
    let last_is = c.last-last.ensures in
    let r = c.loop-number.number in
    let low = row_below s o outer last last_is (length cuts) c.requires.cuts r c.loop-number-test.true in
    let inv = c.loop-number.invariant in
    let stand = inv.3 low in
    let before = c.args.values.now.cells.now in
    let cells = c.loop-number.values.cells.now in
    let at = r * last.size in
    let behind : at + last.size ≡ (r + 1) * last.size = omega (arith, add-mul r 1 last.size) in
    let Row = λ (k : ℕ). (x : ℕ) × (x < (place_in s s.parent).size) × (k ≡ function_cell f x) in
    let Bests : List (Option ℕ) → List g.row.V.Denot → Type 0 = BestEntries v.rules v.means v.within s f cuts before ((r + 1) * last.size) in
    let next = c.advance.ensures in
    elim c.if-cut_index-number.branch [
      | then-cut_index-number w ↦
          let own = key_is o r c.loop-number.combination stand c.cut_index.ensures.value w.if-cut_index-number.true in
          let told = w.best_in_row.ensures in
          let cells' = w.best_in_row.new.values.cells.now in
          let best' = w.best_in_row.new.best in
          let few = few_count s o outer last last_is r low c.loop-number.combination stand own w.counted.result w.counted.ensures in
          let same = unmoved s f (place_in s s.parent).size before cells inv.1 in
          let there = best_by v.rules laws v.means v.within s f cuts cells before (λ p x h k d. sym (same p x h k d)) (at + w.counted.result) best' cells' told.best in
          let bests : Bests best' cells' = subst (λ (i : ℕ). BestEntries v.rules v.means v.within s f cuts before i best' cells') behind
          (none_counts v.rules laws v.means v.within s f cuts before (at + w.counted.result) (at + last.size) best' cells' (omega arith) there
          (none_behind s o outer last last_is r low c.loop-number.combination stand own w.counted.result w.counted.ensures)) in (
            subst (λ b. Bests b c.if-cut_index-number.values.cells.now) (sym w.best-is) (subst (λ b. Bests best' b.cells.now) (sym w.values-is) bests),
            subst (λ b. OnlyAt Row before b.cells.now) (sym w.values-is) (λ k d apart. told.values k d apart ∙ inv.1 k d apart),
            subst (SameLent c.args.values.now) (sym w.values-is) (same_both inv.2 told.same),
            λ h. next.next r h stand,
            next.small,
          )
      | else-cut_index-number w ↦
          let other : cut_index o r ≡ r → ⊥ = λ e. w.if-cut_index-number.false (key_of o r c.loop-number.combination stand c.cut_index.ensures.value ∙ e) in
          let bests : Bests c.loop-number.best cells = subst (λ (i : ℕ). BestEntries v.rules v.means v.within s f cuts before i c.loop-number.best cells) behind
          (none_counts v.rules laws v.means v.within s f cuts before at (at + last.size) c.loop-number.best cells (omega arith) inv.0
          (none_there s o outer last last_is r low c.loop-number.combination stand other)) in (
            subst (λ b. Bests b c.if-cut_index-number.values.cells.now) (sym w.best-is) (subst (λ b. Bests c.loop-number.best b.cells.now) (sym w.values-is) bests),
            subst (λ b. OnlyAt Row before b.cells.now) (sym w.values-is) inv.1,
            subst (SameLent c.args.values.now) (sym w.values-is) inv.2,
            λ h. next.next r h stand,
            next.small,
          )
    ]

pub returns-clause-best : goal.returns-clause-best
returns-clause-best g c =
    let v = g.V.Scale in
    let s = c.args.places.now in
    let last = c.last-last.result in
    let all : c.loop-number.number ≡ length c.args.cuts.now / last.size = omega (arith, c.loop-number-test.false, c.loop-number.auto.number-end) in
    let end = ap (λ (n : ℕ). n * last.size) all ∙ rows_words s c.outer-outer.result c.outer-outer.ensures last c.last-last.ensures (length c.args.cuts.now) c.requires.cuts in
    subst (λ (i : ℕ). BestEntries v.rules v.means v.within s c.args.function c.args.cuts.now c.args.values.now.cells.now i c.loop-number.best c.loop-number.values.cells.now) end
    c.loop-number.invariant.0
