use Rattle.std.proofs.Common.{◌≡◌, ℕ, ◌+◌, ◌*◌, ◌<◌, cond, length, get_or, take, Fits, w64, sym, ap, ◌∙◌, subst, ap₂, arith}
use Rattle.std.proofs.lemmas.Bool.{cond-true, cond-false}
use Rattle.theory.specs.Problem.{index}
use Rattle.theory.proofs.Index.{index_below}
use Rattle.messages.specs.declared.place.Place.{Place}
use Rattle.messages.specs.Places.{count_in, place_in, sizes_in}
use Rattle.messages.proofs.PlaceSizes.{place_is, shown_values, shown_within, shown_step, shown_small, shown_all}
use Rattle.messages.proofs.places.Places.cut_index.Goals as goal
use Rattle.messages.proofs.places.Places.cut_index.Goals.{then-place, else-place}

pub overflow_mul-index : goal.overflow_mul-index
overflow_mul-index c =
    let s = c.args.self.now in
    let p = c.loop-p.p in
    let told = c.list-place-items.ensures.list in
    let low : p < count_in s = omega (arith, c.loop-p-test.true, ap length told) in
    let step = ap (λ (n : ℕ). n * (place_in s p).size + cond (place_in s p).kept (get_or c.args.values.now p 0) 0) c.loop-p.invariant ∙ shown_step s c.args.values.now (omega arith) c.requires p low in
    let fits : Fits w64 (c.loop-p.index * (place_in s p).size) = record { fits = omega (arith, shown_small s c.args.values.now (omega arith) c.requires (p + 1) (omega arith)) } in
    subst (λ (here : Place). Fits w64 (c.loop-p.index * here.size)) (sym (place_is s told p)) fits

pub overflow_add-index : goal.overflow_add-index
overflow_add-index c =
    let s = c.args.self.now in
    let p = c.loop-p.p in
    let told = c.list-place-items.ensures.list in
    let low : p < count_in s = omega (arith, c.loop-p-test.true, ap length told) in
    let step = ap (λ (n : ℕ). n * (place_in s p).size + cond (place_in s p).kept (get_or c.args.values.now p 0) 0) c.loop-p.invariant ∙ shown_step s c.args.values.now (omega arith) c.requires p low in
    let value : c.if-place.value < 16 = elim c.if-place.branch [
      | then-place w ↦ omega (arith, w.value-is, c.requires p low, (s.small p low).2)
      | else-place w ↦ omega (arith, w.value-is)
    ] in
    let fits : Fits w64 (c.loop-p.index * (place_in s p).size + c.if-place.value) = record { fits = omega (arith, shown_small s c.args.values.now (omega arith) c.requires (p + 1) (omega arith)) } in
    subst (λ (here : Place). Fits w64 (c.loop-p.index * here.size + c.if-place.value)) (sym (place_is s told p)) fits

pub loop-p-preserved : goal.loop-p-preserved
loop-p-preserved c =
    let s = c.args.self.now in
    let p = c.loop-p.p in
    let told = c.list-place-items.ensures.list in
    let low : p < count_in s = omega (arith, c.loop-p-test.true, ap length told) in
    let here = place_is s told p in
    let kept = sym (ap (λ (x : Place). x.kept) here) in
    let value : c.if-place.value ≡ cond (place_in s p).kept (get_or c.args.values.now p 0) 0 = elim c.if-place.branch [
      | then-place w ↦ w.value-is ∙ sym (cond-true (place_in s p).kept (get_or c.args.values.now p 0) 0 (kept ∙ w.if-place.true))
      | else-place w ↦ w.value-is ∙ sym (cond-false (place_in s p).kept (get_or c.args.values.now p 0) 0 (kept ∙ w.if-place.false))
    ] in
    ap (λ (x : Place). c.loop-p.index * x.size + c.if-place.value) here
    ∙ ap₂ (λ (n m : ℕ). n * (place_in s p).size + m) c.loop-p.invariant value ∙ shown_step s c.args.values.now (omega arith) c.requires p low

pub returns-clause-value : goal.returns-clause-value
returns-clause-value c =
    let s = c.args.self.now in
    let end : c.loop-p.p ≡ count_in s = omega (arith, c.loop-p-test.false, c.loop-p.auto.p-end, ap length c.list-place-items.ensures.list) in
    c.loop-p.invariant ∙ ap (λ (n : ℕ). index (take n (sizes_in s)) (take n (shown_values s c.args.values.now (omega arith) c.requires))) end ∙ shown_all s c.args.values.now (omega arith) c.requires

pub returns-clause-inside : goal.returns-clause-inside
returns-clause-inside c =
    let s = c.args.self.now in
    let end : c.loop-p.p ≡ count_in s = omega (arith, c.loop-p-test.false, c.loop-p.auto.p-end, ap length c.list-place-items.ensures.list) in
    let is : c.loop-p.index ≡ index (sizes_in s) (shown_values s c.args.values.now (omega arith) c.requires) =
    c.loop-p.invariant ∙ ap (λ (n : ℕ). index (take n (sizes_in s)) (take n (shown_values s c.args.values.now (omega arith) c.requires))) end ∙ shown_all s c.args.values.now (omega arith) c.requires in
    omega (arith, is, index_below (sizes_in s) (shown_values s c.args.values.now (omega arith) c.requires) (shown_within s c.args.values.now (omega arith) c.requires))
