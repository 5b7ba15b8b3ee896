use Rattle.std.proofs.Common.{◌≡◌, ℕ, ◌+◌, ◌-◌, ◌<◌, get_or, set, None, sym, refl, ap, ◌∙◌, subst, arith}
use Rattle.std.proofs.lemmas.List.{length-set}
use Rattle.board.proofs.SameLent.{same_self, same_both}
use Rattle.messages.specs.declared.place.Place.{Place}
use Rattle.messages.specs.Combinations.{combination}
use Rattle.messages.specs.Places.{count_in, place_in, sizes_in}
use Rattle.messages.specs.Rows.{parent_at}
use Rattle.messages.specs.Sent.{variable_cell, function_cell}
use Rattle.messages.specs.Upward.{WithBelow, BestEntries}
use Rattle.messages.proofs.Taking.{one_entry, taken, made_by, row_word, row_length, only_row}
use Rattle.messages.proofs.entries.best_across.Goals as goal

pub loop-x-init : goal.loop-x-init
loop-x-init g c =
    let v = g.V.Scale in
    let row = c.args.row.now in
    let before = c.args.values.now.cells.now in (
      omega arith,
      subst (λ (i : ℕ). BestEntries v.rules v.means v.within c.args.places.now c.args.function c.args.cuts.now before i c.args.best.now before) (omega arith) c.requires.best,
      λ k d apart. refl,
      same_self c.args.values.now,
    )

pub loop-x-preserved : goal.loop-x-preserved
loop-x-preserved g c =
    let v = g.V.Scale in
    let laws = g.met.V.Scale.laws in
    let s = c.args.places.now in
    let f = c.args.function in
    let cuts = c.args.cuts.now in
    let row = c.args.row.now in
    let at = row.at in
    let before = c.args.values.now.cells.now in
    let cells = c.loop-x.values.cells.now in
    let inv = c.loop-x.invariant in
    let best = c.loop-x.best in
    let x = c.loop-x.x in
    let low : x < row.many = omega (arith, c.loop-x-test.true, row_length at row.many cuts (omega (arith, c.requires.row.inside, c.requires.cuts))) in
    let last : count_in s - 1 ≡ s.parent = omega (arith, c.requires.parent) in
    let inside : count_in s - 1 < count_in s = omega (arith, c.requires.parent) in
    let fits : x < (place_in s (count_in s - 1)).size = omega (arith, c.requires.row.few) in
    let small : x < 16 = omega (arith, (s.small (count_in s - 1) inside).2) in
    let value = c.with_below-value.result in
    let unmoved : (p y : ℕ) → p < count_in s → y < 16 → (d : g.row.V.Denot) → get_or cells (variable_cell (place_in s p).variable y) d ≡ get_or before (variable_cell (place_in s p).variable y) d =
    λ p y h k d. inv.2 (variable_cell (place_in s p).variable y) d (λ (z, l, e). absurd (omega (arith, (s.small p h).0))) in
    let made = made_by v.rules laws v.means v.within s f cuts before cells unmoved (get_or cuts (at + x) 0) row.up (count_in s - 1) x inside small value
    (subst (λ (a : Place). WithBelow v.rules v.means v.within cells (get_or cuts (at + x) 0) row.up a x value) c.last-last.ensures
    (subst (λ (word : ℕ). WithBelow v.rules v.means v.within cells word row.up c.last-last.result x value) (row_word at row.many x cuts low) c.with_below-value.ensures)) in
    let parent : parent_at s (at + x) ≡ x = ap (λ (p : ℕ). get_or (combination (sizes_in s) (at + x)) p 0) (sym last) ∙ c.requires.row.last x low in
    let told = c.consider.ensures in
    let cells' = c.consider.new.values.cells.now in
    let here = λ (d : g.row.V.Denot).
    one_entry v.rules laws v.means v.within s cuts before g.met.V.Scale.ties at row.many c.requires.row c.requires.cuts (omega (arith, c.requires.parent)) row.up c.requires.up x low value made x parent
    (get_or best x None) (get_or cells (function_cell f x) d) (inv.1 x small d) c.consider.result (get_or cells' (function_cell f x) d) (told.here d) in (
      length-set best x c.consider.result ∙ inv.0,
      subst (λ (i : ℕ). BestEntries v.rules v.means v.within s f cuts before i (set best x c.consider.result) cells') (omega arith)
          (taken v.rules laws v.means v.within s f cuts before (at + x) (at + x + 1) (omega arith) best cells inv.1 x inv.0 small
          (λ j i k own. let same : j ≡ at + x = omega arith in ap (parent_at s) same ∙ parent) c.consider.result cells' here told.values),
      only_row (function_cell f) (place_in s s.parent).size x before cells cells' (subst (λ (p : ℕ). x < (place_in s p).size) last fits) inv.2 told.values,
      same_both inv.3 told.same,
    )

pub returns-clause-best : goal.returns-clause-best
returns-clause-best g c =
    let v = g.V.Scale in
    let row = c.args.row.now in
    let end : c.loop-x.x ≡ row.many = omega (arith, c.loop-x-test.false, c.loop-x.auto.x-end, row_length row.at row.many c.args.cuts.now (omega (arith, c.requires.row.inside, c.requires.cuts))) in
    subst (λ (x : ℕ). BestEntries v.rules v.means v.within c.args.places.now c.args.function c.args.cuts.now c.args.values.now.cells.now (row.at + x) c.loop-x.best c.loop-x.values.cells.now) end
    c.loop-x.invariant.1
