use Rattle.std.proofs.Common.{◌≡◌, ◌+◌, ◌<◌, length, get_or, set, sym, ap, ◌∙◌, subst, arith}
use Rattle.messages.specs.declared.place.Place.{Place}
use Rattle.messages.specs.Places.{count_in, place_in}
use Rattle.messages.proofs.PlaceSizes.{place_is}
use Rattle.picking.specs.declared.draft.Draft.{Draft}
use Rattle.picking.specs.Steps.{Handed}
use Rattle.picking.proofs.Handing.{handed_skip, handed_more}
use Rattle.picking.proofs.below.give_below.Goals as goal
use Rattle.picking.proofs.below.give_below.Goals.{then-place, else-place}

pub loop-p-preserved : goal.loop-p-preserved
loop-p-preserved c =
    let s = c.args.places.now in
    let xs = c.args.values in
    let p = c.loop-p.p in
    let before = c.args.draft.now.values in
    let plan = c.loop-p.draft.values in
    let v = (place_in s p).variable in
    let told = c.list-place-items.ensures.list in
    let is = place_is s told p in
    let so_far = c.loop-p.invariant in
    let inside : p < count_in s = omega (arith, ap length told, c.loop-p-test.true) in
    let known : v < 64 = omega (arith, (s.small p inside).0) in
    let Now = λ (d : Draft). Handed s xs (p + 1) before d.values in
    elim c.if-place.branch [
      | then-place w ↦
          let hangs = sym (ap (λ (x : Place). x.below) is) ∙ w.if-place.true in
          let new : w.give.new.self.values ≡ set plan v (get_or xs p 0) = w.give.ensures ∙ ap (λ (x : Place). set plan x.variable (get_or xs p 0)) is in
          subst Now (sym w.draft-is)
          (subst (Handed s xs (p + 1) before) (sym new) (handed_more s xs before p plan so_far hangs (omega (arith, c.loop-p.draft.small.long)) (λ q h. c.requires.distinct q p h inside)))
      | else-place w ↦ subst Now (sym w.draft-is) (handed_skip s xs before p plan so_far (sym (ap (λ (x : Place). x.below) is) ∙ w.if-place.false))
    ]
