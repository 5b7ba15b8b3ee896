use Rattle.std.proofs.Common.{◌≡◌, ℕ, ◌+◌, ◌-◌, ◌*◌, ◌/◌, ◌<◌, ◌≤◌, length, sym, ap, ◌∙◌, subst, add-mul, arith}
use Rattle.std.proofs.lemmas.Bool.{cond-true, cond-false}
use Rattle.messages.specs.declared.place.Place.{Place}
use Rattle.messages.specs.Places.{count_in, place_in, cut_index, CutTo}
use Rattle.messages.proofs.Rows.{key_of, key_there, row_below, rows_words, row_inside}
use Rattle.messages.proofs.cutting.lay_cut.Goals as goal
use Rattle.messages.proofs.cutting.lay_cut.Goals.{then-last, else-last}

pub overflow_mul-key : goal.overflow_mul-key
overflow_mul-key g c =
    let end = row_inside c.args.places.now c.outer-outer.result c.outer-outer.ensures c.last-last.result c.last-last.ensures (length c.args.table.now) c.requires.table c.cut_index.result c.cut_index.ensures.inside in
    record { fits = omega (arith, end, c.requires.small) }

pub lay_along-requires-clause-inside : goal.lay_along-requires-clause-inside
lay_along-requires-clause-inside g c =
    subst (λ (a : Place). c.cut_index.result * c.last-last.result.size + a.size ≤ length c.args.table.now) c.last-last.ensures
    (row_inside c.args.places.now c.outer-outer.result c.outer-outer.ensures c.last-last.result c.last-last.ensures (length c.args.table.now) c.requires.table c.cut_index.result c.cut_index.ensures.inside)

pub lay_along-requires-clause-keys : goal.lay_along-requires-clause-keys
lay_along-requires-clause-keys g c = λ x under.
    let s = c.args.places.now in
    let o = c.outer-outer.result in
    let last = c.last-last.result in
    let r = c.loop-number.number in
    let low = row_below s o c.outer-outer.ensures last c.last-last.ensures (length c.args.table.now) c.requires.table r c.loop-number-test.true in
    let stand = c.loop-number.invariant.1 low in
    key_there s o c.outer-outer.ensures last c.last-last.ensures r low c.loop-number.values stand x (subst (λ (a : Place). x < a.size) (sym c.last-last.ensures) under)
    ∙ ap (λ (k : ℕ). cut_index o r * last.size + k) (cond-true last.kept x 0 c.if-last.true)
    ∙ ap (λ (k : ℕ). k * last.size + x) (sym (key_of o r c.loop-number.values stand c.cut_index.ensures.value))

pub lay_lowest-requires-clause-inside : goal.lay_lowest-requires-clause-inside
lay_lowest-requires-clause-inside g c =
    let s = c.args.places.now in
    let some = subst (λ (a : Place). 1 ≤ a.size) (sym c.last-last.ensures) (s.small (count_in s - 1) (omega (arith, c.requires.some))).1 in
    omega (arith, some, row_inside s c.outer-outer.result c.outer-outer.ensures c.last-last.result c.last-last.ensures (length c.args.table.now) c.requires.table c.cut_index.result c.cut_index.ensures.inside)

pub lay_lowest-requires-clause-keys : goal.lay_lowest-requires-clause-keys
lay_lowest-requires-clause-keys g c = λ x under.
    let s = c.args.places.now in
    let o = c.outer-outer.result in
    let last = c.last-last.result in
    let r = c.loop-number.number in
    let low = row_below s o c.outer-outer.ensures last c.last-last.ensures (length c.args.table.now) c.requires.table r c.loop-number-test.true in
    let stand = c.loop-number.invariant.1 low in
    let key = key_of o r c.loop-number.values stand c.cut_index.ensures.value in
    let zero = cond-false last.kept x 0 c.if-last.false in
    omega (
      arith,
      zero,
      ap (λ (k : ℕ). k * last.size) key,
      key_there s o c.outer-outer.ensures last c.last-last.ensures r low c.loop-number.values stand x (subst (λ (a : Place). x < a.size) (sym c.last-last.ensures) under),
    )

pub loop-number-preserved : goal.loop-number-preserved
loop-number-preserved g c =
    let v = g.V.Scale in
    let s = c.args.places.now in
    let o = c.outer-outer.result in
    let last = c.last-last.result in
    let r = c.loop-number.number in
    let low = row_below s o c.outer-outer.ensures last c.last-last.ensures (length c.args.table.now) c.requires.table r c.loop-number-test.true in
    let stand = c.loop-number.invariant.1 low in
    let behind : r * last.size + (place_in s (count_in s - 1)).size ≡ (r + 1) * last.size = omega (arith, add-mul r 1 last.size, ap (λ (a : Place). a.size) c.last-last.ensures) in
    let laid : CutTo v.rules s c.args.table.now (r * last.size + (place_in s (count_in s - 1)).size) c.if-last.words = elim c.if-last.branch [
      | then-last w ↦ subst (CutTo v.rules s c.args.table.now (r * last.size + (place_in s (count_in s - 1)).size)) (sym w.words-is) w.lay_along.ensures
      | else-last w ↦ subst (CutTo v.rules s c.args.table.now (r * last.size + (place_in s (count_in s - 1)).size)) (sym w.words-is) w.lay_lowest.ensures
    ] in (
      subst (λ (i : ℕ). CutTo v.rules s c.args.table.now i c.if-last.words) behind laid,
      λ h. c.advance.ensures.next r h stand,
      c.advance.ensures.small,
    )

pub returns : goal.returns
returns g c =
    let s = c.args.places.now in
    let last = c.last-last.result in
    let all : c.loop-number.number ≡ length c.args.table.now / last.size = omega (arith, c.loop-number-test.false, c.loop-number.auto.number-end) in
    let end = ap (λ (n : ℕ). n * last.size) all ∙ rows_words s c.outer-outer.result c.outer-outer.ensures last c.last-last.ensures (length c.args.table.now) c.requires.table in
    subst (λ (i : ℕ). CutTo g.V.Scale.rules s c.args.table.now i c.loop-number.words) end c.loop-number.invariant.0
