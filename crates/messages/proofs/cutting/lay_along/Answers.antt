use Rattle.std.proofs.Common.{◌≡◌, ℕ, ◌+◌, ◌-◌, cond, length, get_or, set, ap, ◌∙◌, subst, inl, inr, arith}
use Rattle.std.proofs.lemmas.List.{get_or_default}
use Rattle.messages.specs.declared.place.Place.{Place}
use Rattle.messages.specs.Places.{count_in, place_in, CutTo}
use Rattle.messages.proofs.Laying.{laid_one}
use Rattle.messages.proofs.cutting.lay_along.Goals as goal
use Rattle.messages.proofs.cutting.lay_along.Goals.{then-key-at, else-key-at}

pub loop-x-init : goal.loop-x-init
loop-x-init g c = subst (λ (i : ℕ). CutTo g.V.Scale.rules c.args.places.now c.args.table.now i c.args.words.now) (omega arith) c.requires.laid

pub loop-x-preserved : goal.loop-x-preserved
loop-x-preserved g c =
    let v = g.V.Scale in
    let s = c.args.places.now in
    let table = c.args.table.now in
    let at = c.args.at in
    let x = c.loop-x.x in
    let words = c.loop-x.words in
    let there = c.args.key + x in
    let r = c.if-key-at.words in
    let new = get_or table (at + x) 0 in
    let size = ap (λ (a : Place). a.size) c.last.ensures in
    let low = c.loop-x-test.true in
    let long : length words ≡ length table = c.loop-x.auto.words ∙ c.requires.words in
    subst (λ (i : ℕ). CutTo v.rules s table i (set words there r)) (omega arith)
    (laid_one v.rules g.met.V.Scale.laws s table c.requires.table (at + x) (omega (arith, low, size, c.requires.row)) there words r long (c.requires.keys x (omega (arith, low, size))) c.loop-x.invariant
    (elim c.if-key-at.branch [
      | then-key-at w ↦ inl (omega (arith, w.if-key-at.true), w.words-is)
      | else-key-at w ↦ inr (
        λ e. w.if-key-at.false (omega arith),
        λ d. w.words-is ∙ w.lower.ensures
            ∙ ap (λ (o : ℕ). cond (v.rules.leq (v.rules.reads new) (v.rules.reads o)) new o) (get_or_default words there 0 d (omega (arith, long, low, size, c.requires.inside))),
      )
    ]))

pub returns : goal.returns
returns g c =
    let end : c.loop-x.x ≡ (place_in c.args.places.now (count_in c.args.places.now - 1)).size = omega (arith, c.loop-x-test.false, c.loop-x.auto.x-end, ap (λ (a : Place). a.size) c.last.ensures) in
    subst (λ (x : ℕ). CutTo g.V.Scale.rules c.args.places.now c.args.table.now (c.args.at + x) c.loop-x.words) end c.loop-x.invariant
