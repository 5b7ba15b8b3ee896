use Rattle.std.proofs.Common.{◌≡◌, ℕ, ◌+◌, ◌<◌, true, false, length, get_or, sym, ap, ◌∙◌, subst, arith}
use Rattle.theory.specs.Joins.{when}
use Rattle.joining.specs.Counts.{counts}
use Rattle.joining.specs.Standing.{StandsFor}
use Rattle.joining.proofs.Counting.{joins_mono}
use Rattle.joining.proofs.Joining.{started, next_joined, next_passed, when_true, when_false, stands_for}
use Rattle.messages.specs.declared.place.Place.{Place}
use Rattle.messages.specs.Places.{count_in, place_in}
use Rattle.messages.specs.Sent.{variable_cell}
use Rattle.messages.specs.Upward.{upward}
use Rattle.messages.proofs.PlaceSizes.{place_is}
use Rattle.messages.proofs.upward.from_below.Goals as goal
use Rattle.messages.proofs.upward.from_below.Goals.{then-place, else-place}

pub loop-p-init : goal.loop-p-init
loop-p-init g c = λ q n held few.
    let v = g.V.Scale in
    let s = c.args.places.now in
    let x = get_or c.args.combination.now in
    started v.rules v.means v.within (λ p. when v.rules (place_in s p).below (q (place_in s p).variable (x p 0))) (λ p. when counts (place_in s p).below (n (place_in s p).variable (x p 0))) 0 c.neutral-sum.ensures.means c.neutral-sum.ensures.within

pub loop-p-preserved : goal.loop-p-preserved
loop-p-preserved g c = λ q n held few.
    let v = g.V.Scale in
    let s = c.args.places.now in
    let x = get_or c.args.combination.now in
    let p = c.loop-p.p in
    let told = c.list-place-items.ensures.list in
    let here = place_is s told p in
    let inside : p < count_in s = omega (arith, c.loop-p-test.true, ap length told) in
    let e = λ (p : ℕ). when v.rules (place_in s p).below (q (place_in s p).variable (x p 0)) in
    let k : ℕ → ℕ = λ p. when counts (place_in s p).below (n (place_in s p).variable (x p 0)) in
    let so_far = c.loop-p.invariant q n held few in
    let is_below = ap (λ (a : Place). a.below) here in
    elim c.if-place.branch [
      | then-place w ↦
          let below : (place_in s p).below ≡ true = sym is_below ∙ w.if-place.true in
          let message = subst (StandsFor v.means v.within (q (place_in s p).variable (x p 0)) (n (place_in s p).variable (x p 0)))
          (sym (w.get.ensures w.get.result ∙ ap (λ (a : Place). get_or c.args.values.now.cells.now (variable_cell a.variable (x p 0)) w.get.result) here))
          (held p (x p 0) inside below (c.requires.inside p inside) w.get.result) in
          let new = stands_for v.rules v.means v.within (sym (when_true v.rules _ below)) (sym (when_true counts _ below)) message in
          subst (StandsFor v.means v.within (upward v.rules s q c.args.combination.now (p + 1)) (upward counts s n c.args.combination.now (p + 1))) (sym w.sum-is)
          (next_joined v.rules v.means v.within e k p so_far new (omega (arith, few, joins_mono (p + 1) (count_in s) k (omega arith))) w.join-sum.ensures)
      | else-place w ↦
          let out : (place_in s p).below ≡ false = sym is_below ∙ w.if-place.false in
          subst (StandsFor v.means v.within (upward v.rules s q c.args.combination.now (p + 1)) (upward counts s n c.args.combination.now (p + 1))) (sym w.sum-is)
          (next_passed v.rules v.means v.within e k p g.met.V.Scale.laws so_far (when_false v.rules _ out) (when_false counts _ out))
    ]

pub returns : goal.returns
returns g c = λ q n held few.
    let v = g.V.Scale in
    let s = c.args.places.now in
    let end : c.loop-p.p ≡ count_in s = omega (arith, c.loop-p-test.false, c.loop-p.auto.p-end, ap length c.list-place-items.ensures.list) in
    subst (λ (i : ℕ). StandsFor v.means v.within (upward v.rules s q c.args.combination.now i) (upward counts s n c.args.combination.now i) c.loop-p.sum) end
    (c.loop-p.invariant q n held few)
