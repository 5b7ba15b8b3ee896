use Rattle.std.proofs.Common.{◌≡◌, ℕ, ◌+◌, ◌-◌, ◌<◌, cond, get_or, set, sym, ap, ◌∙◌, subst, inl, inr, arith}
use Rattle.std.proofs.lemmas.List.{get_or_default, get_or-set_same, length-set, set-set}
use Rattle.messages.specs.declared.place.Place.{Place}
use Rattle.messages.specs.Places.{count_in, place_in, CutTo, cut_index}
use Rattle.messages.proofs.Laying.{cut_low, laid_one}
use Rattle.messages.proofs.cutting.lay_lowest.Goals as goal
use Rattle.messages.proofs.cutting.lay_lowest.Goals.{then-key-at, else-key-at}

pub loop-x-init : goal.loop-x-init
loop-x-init g c =
    let v = g.V.Scale in
    let s = c.args.places.now in
    let table = c.args.table.now in
    let at = c.args.at in
    let key = c.args.key in
    let words = c.args.words.now in
    let new = get_or table at 0 in
    let some = (s.small (count_in s - 1) (omega (arith, c.requires.some))).1 in
    let first : at + 0 ≡ at = omega arith in
    laid_one v.rules g.met.V.Scale.laws s table c.requires.table at (omega (arith, some, c.requires.row)) key words c.if-key-at.low c.requires.words
    (ap (cut_index s) (sym first) ∙ c.requires.keys 0 (omega (arith, some))) c.requires.laid
    (elim c.if-key-at.branch [
      | then-key-at w ↦ inl (w.if-key-at.true, w.low-is)
      | else-key-at w ↦ inr (
        w.if-key-at.false,
        λ d. w.low-is ∙ w.lower-low.ensures
            ∙ ap (λ (o : ℕ). cond (v.rules.leq (v.rules.reads new) (v.rules.reads o)) new o) (get_or_default words key 0 d (omega (arith, c.requires.words, c.requires.inside))),
      )
    ])

pub loop-x-preserved : goal.loop-x-preserved
loop-x-preserved g c =
    let v = g.V.Scale in
    let s = c.args.places.now in
    let table = c.args.table.now in
    let at = c.args.at in
    let x = c.loop-x.x in
    let key = c.args.key in
    let words = c.args.words.now in
    let low = c.loop-x.low in
    let new = get_or table (at + x) 0 in
    let size = ap (λ (a : Place). a.size) c.last-x-end.ensures in
    let some = (s.small (count_in s - 1) (omega (arith, c.requires.some))).1 in
    let under : x < (place_in s (count_in s - 1)).size = omega (arith, c.loop-x-test.true, size) in
    let first : at + 0 ≡ at = omega arith in
    let none_before = cut_low v.rules g.met.V.Scale.laws s table c.requires.table at (omega (arith, some, c.requires.row)) in
    let key_first = ap (cut_index s) (sym first) ∙ c.requires.keys 0 (omega (arith, some)) in
    subst (λ (i : ℕ). CutTo v.rules s table i (set words key c.lower-low-in-loop-x.result)) (omega arith)
    (subst (CutTo v.rules s table (at + x + 1)) (set-set words key low c.lower-low-in-loop-x.result)
    (laid_one v.rules g.met.V.Scale.laws s table c.requires.table (at + x) (omega (arith, under, c.requires.row)) key (set words key low) c.lower-low-in-loop-x.result (length-set words key low ∙ c.requires.words)
    (c.requires.keys x under) c.loop-x.invariant
    (inr (
      λ e. absurd (omega (arith, c.loop-x.auto.x, none_before, key_first)),
      λ d. c.lower-low-in-loop-x.ensures
          ∙ ap (λ (o : ℕ). cond (v.rules.leq (v.rules.reads new) (v.rules.reads o)) new o) (sym (get_or-set_same words key low d (omega (arith, c.requires.words, c.requires.inside)))),
    ))))

pub returns : goal.returns
returns g c =
    let s = c.args.places.now in
    let some = (s.small (count_in s - 1) (omega (arith, c.requires.some))).1 in
    let size = ap (λ (a : Place). a.size) c.last-x-end.ensures in
    let end : c.loop-x.x ≡ (place_in s (count_in s - 1)).size = omega (arith, c.loop-x-test.false, c.loop-x.auto.x-end, some, size) in
    subst (λ (x : ℕ). CutTo g.V.Scale.rules s c.args.table.now (c.args.at + x) (set c.args.words.now c.args.key c.loop-x.low)) end c.loop-x.invariant
