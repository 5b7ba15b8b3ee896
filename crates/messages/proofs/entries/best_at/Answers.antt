use Rattle.std.proofs.Common.{◌≡◌, ℕ, ◌+◌, ◌-◌, ◌<◌, ◌≤◌, length, get_or, None, sym, ap, ◌∙◌, subst, arith}
use Rattle.std.proofs.lemmas.List.{get_or-set_same, get_or-set_other}
use Rattle.messages.specs.declared.places.Places.{Places}
use Rattle.messages.specs.Places.{count_in}
use Rattle.messages.specs.Rows.{RowAt, parent_at}
use Rattle.messages.specs.Sent.{function_cell}
use Rattle.messages.specs.Upward.{BestAt}
use Rattle.messages.proofs.Taking.{taken}
use Rattle.messages.proofs.entries.best_at.Goals as goal

-- the value of a parent that is not at the last place is the same along a row
one_value : (s : Places) (at many : ℕ) → RowAt s at many → s.parent + 1 < count_in s → (j : ℕ) → at ≤ j → j < at + many → parent_at s j ≡ parent_at s at
one_value s at many row inner j low under =
    let here : at + (j - at) ≡ j = omega arith in
    ap (parent_at s) (sym here) ∙ row.others (j - at) s.parent (omega arith) inner

pub best_along-index-requires-clause-best : goal.best_along-index-requires-clause-best
best_along-index-requires-clause-best g c =
    let v = g.V.Scale in
    let s = c.args.places.now in
    let before = c.args.values.now.cells.now in
    let best = get_or c.args.best.now c.args.x None in
    subst (λ (x : ℕ). BestAt v.rules v.means v.within s c.args.cuts.now before c.args.row.now.at x best c.get.result) c.requires.value
    (subst (BestAt v.rules v.means v.within s c.args.cuts.now before c.args.row.now.at c.args.x best) (sym (c.get.ensures c.get.result)) (c.requires.best c.args.x c.requires.few c.get.result))

pub returns-clause-best : goal.returns-clause-best
returns-clause-best g c =
    let v = g.V.Scale in
    let s = c.args.places.now in
    let f = c.args.function in
    let row = c.args.row.now in
    let before = c.args.values.now.cells.now in
    let cell = function_cell f c.args.x in
    let index = c.best_along-index.result.0 in
    let highest = c.best_along-index.result.1 in
    let whole = c.args.values.now.whole in
    let room : cell < length before = omega (arith, c.requires.function, c.requires.values, c.requires.few) in
    taken v.rules g.met.V.Scale.laws v.means v.within s f c.args.cuts.now before row.at (row.at + row.many) (omega arith) c.args.best.now before c.requires.best c.args.x (omega arith) c.requires.few
    (λ j low under own. one_value s row.at row.many c.requires.row c.requires.parent j low under ∙ sym c.requires.value) index c.put.new.self.cells.now
    (λ d. subst (BestAt v.rules v.means v.within s c.args.cuts.now before (row.at + row.many) c.args.x index) (sym (ap (λ cells. get_or cells cell d) c.put.ensures.after ∙ get_or-set_same before cell highest d room))
    (subst (λ (x : ℕ). BestAt v.rules v.means v.within s c.args.cuts.now before (row.at + row.many) x index highest) (sym c.requires.value) c.best_along-index.ensures))
    (λ k d apart. ap (λ cells. get_or cells k d) c.put.ensures.after ∙ get_or-set_other before cell k highest d apart)

pub returns-clause-values : goal.returns-clause-values
returns-clause-values g c = λ k d apart.
    let before = c.args.values.now.cells.now in
    let cell = function_cell c.args.function c.args.x in
    ap (λ cells. get_or cells k d) c.put.ensures.after ∙ get_or-set_other before cell k c.best_along-index.result.1 d (λ e. apart (c.args.x, c.requires.fits, e))
