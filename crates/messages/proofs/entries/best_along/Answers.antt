use Rattle.std.proofs.Common.{◌≡◌, ℕ, ◌+◌, ◌<◌, get_or, subst, arith}
use Rattle.messages.specs.declared.place.Place.{Place}
use Rattle.messages.specs.Rows.{parent_at}
use Rattle.messages.specs.Upward.{WithBelow, BestAt}
use Rattle.messages.proofs.Taking.{one_entry, entry_parent, row_word, row_length}
use Rattle.messages.proofs.entries.best_along.Goals as goal

pub loop-x-init : goal.loop-x-init
loop-x-init g c =
    let v = g.V.Scale in
    let row = c.args.row.now in
    subst (λ (i : ℕ). BestAt v.rules v.means v.within c.args.places.now c.args.cuts.now c.args.values.now.cells.now i (parent_at c.args.places.now row.at) c.args.best.0 c.args.best.1) (omega arith) c.requires.best

pub loop-x-preserved : goal.loop-x-preserved
loop-x-preserved g c =
    let v = g.V.Scale in
    let s = c.args.places.now in
    let cuts = c.args.cuts.now in
    let row = c.args.row.now in
    let cells = c.args.values.now.cells.now in
    let x = c.loop-x.x in
    let low : x < row.many = omega (arith, c.loop-x-test.true, row_length row.at row.many cuts (omega (arith, c.requires.row.inside, c.requires.cuts))) in
    let value = c.with_below-value.result in
    let made = subst (λ (a : Place). WithBelow v.rules v.means v.within cells (get_or cuts (row.at + x) 0) row.up a x value) c.last-last.ensures
    (subst (λ (word : ℕ). WithBelow v.rules v.means v.within cells word row.up c.last-last.result x value) (row_word row.at row.many x cuts low) c.with_below-value.ensures) in
    subst (λ (i : ℕ). BestAt v.rules v.means v.within s cuts cells i (parent_at s row.at) c.better_of-best.result.0 c.better_of-best.result.1) (omega arith)
    (one_entry v.rules g.met.V.Scale.laws v.means v.within s cuts cells g.met.V.Scale.ties row.at row.many c.requires.row c.requires.cuts (omega (arith, c.requires.parent)) row.up c.requires.up x low value made
    (parent_at s row.at) (entry_parent v.rules g.met.V.Scale.laws v.means v.within s cuts cells g.met.V.Scale.ties row.at row.many c.requires.row c.requires.cuts (omega (arith, c.requires.parent)) row.up c.requires.up x low c.requires.parent)
    c.loop-x.best.0 c.loop-x.best.1 c.loop-x.invariant c.better_of-best.result.0 c.better_of-best.result.1 c.better_of-best.ensures)

pub returns : goal.returns
returns g c =
    let v = g.V.Scale in
    let row = c.args.row.now in
    let end : c.loop-x.x ≡ row.many = omega (arith, c.loop-x-test.false, c.loop-x.auto.x-end, row_length row.at row.many c.args.cuts.now (omega (arith, c.requires.row.inside, c.requires.cuts))) in
    subst (λ (x : ℕ). BestAt v.rules v.means v.within c.args.places.now c.args.cuts.now c.args.values.now.cells.now (row.at + x) (parent_at c.args.places.now row.at) c.loop-x.best.0 c.loop-x.best.1) end
    c.loop-x.invariant
