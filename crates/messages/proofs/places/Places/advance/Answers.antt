use Rattle.std.proofs.Common.{◌≡◌, ℕ, ◌+◌, ◌<◌, ◌≤◌, List, length, get_or, set, take, sym, refl, ap, ◌∙◌, subst, ap₂, inl, inr, arith}
use Rattle.std.proofs.lemmas.List.{ext_get_or, get_or-take, get_or_append_left, get_or_push, length-set, length_push, length-take-le, take_all}
use Rattle.theory.specs.Problem.{product, index}
use Rattle.messages.specs.declared.place.Place.{Place}
use Rattle.messages.specs.Combinations.{combination}
use Rattle.messages.specs.Place.{no_place}
use Rattle.messages.specs.Places.{places_in, count_in, place_in, sizes_in}
use Rattle.messages.proofs.Combining.{combination_within, index_combination, within_length}
use Rattle.messages.proofs.Following.{Ahead, Turn, turn_before, turn_small, turn_done}
use Rattle.messages.proofs.PlaceSizes.{few_places, sizes_length}
use Rattle.messages.proofs.places.Places.advance.Goals as goal
use Rattle.messages.proofs.places.Places.advance.Goals.{then-full, else-full}

pub loop-p-init : goal.loop-p-init
loop-p-init c =
    let s = c.args.self.now in
    let sizes = sizes_in s in
    let source = ap (λ r. r.iter) c.into_iter-p-iterator.ensures.into_iter_gives ∙ c.rev-p-items.ensures.source in
    let ahead = c.into_iter-p-iterator.result.iter.iter.rest.now in
    let all : ahead ≡ places_in s = ap (λ e. e.iter.rest.now) source ∙ ap (λ r. r.rest.now) c.enumerate.ensures.source ∙ c.iter.ensures.rest ∙ c.list.ensures.list in
    let count = ap length all in
    let whole : (i : ℕ) → i < product sizes → index (take (length ahead) sizes) (take (length ahead) (combination sizes i)) ≡ i = λ i h.
    ap₂ index (take_all (length ahead) sizes (omega (arith, sizes_length s)))
    (take_all (length ahead) (combination sizes i) (omega (arith, within_length sizes (combination sizes i) (combination_within sizes i h), sizes_length s)))
    ∙ index_combination sizes i h in (
      ap (λ e. e.count) source ∙ c.enumerate.ensures.count,
      omega arith,
      λ q h. ap (λ (places : List Place). get_or places q no_place) all,
      omega arith,
      omega arith,
      λ q h. refl,
      λ q least under. absurd (omega arith),
      λ i h same. (whole (i + 1) h ∙ ap (λ (n : ℕ). n + 1) (sym (whole i (omega arith))), λ q least below. absurd (omega arith)),
    )

pub overflow_add-value : goal.overflow_add-value
overflow_add-value c =
    let s = c.args.self.now in
    let p = c.in-Some.p in
    let inv = c.loop-p.invariant in
    let (same, (grown, at, bound)) = c.in-Some.ensures.steps in
    let num : length c.next.new.self.iter.iter.rest.now ≡ p = omega (arith, at, inv.0) in
    let some = ap length grown ∙ length_push c.next.new.self.iter.iter.rest.now c.in-Some.place.now in
    let below : p < count_in s = omega (arith, inv.1, some, num) in
    record { fits = omega (arith, inv.4, inv.5 p (omega (arith, some, num)), c.requires p below, (s.small p below).2) }

pub loop-p-preserved-then-full-2 : goal.loop-p-preserved-then-full-2
loop-p-preserved-then-full-2 c =
    let s = c.args.self.now in
    let p = c.in-Some.p in
    let next = c.loop-p.values in
    let inv = c.loop-p.invariant in
    let (same, (grown, at, bound)) = c.in-Some.ensures.steps in
    let before = c.loop-p.p-iterator.iter.iter.rest.now in
    let after = c.next.new.self.iter.iter.rest.now in
    let last = c.in-Some.place.now in
    let num : length after ≡ p = omega (arith, at, inv.0) in
    let some : length before ≡ p + 1 = ap length grown ∙ length_push after last ∙ ap (λ (n : ℕ). n + 1) num in
    let below : p < count_in s = omega (arith, inv.1) in
    let told : last.size ≡ (place_in s p).size = ap (λ (x : Place). x.size) (sym (ap (λ (places : List Place). get_or places p no_place) grown ∙ get_or_push after last no_place p num) ∙ inv.2 p (omega arith)) in
    let room : p < 4 = (let few = few_places s in omega arith) in
    let zero : c.if-full.values ≡ 0 = elim c.if-full.branch [
      | then-full w ↦ w.values-is
      | else-full w ↦ absurd (omega (arith, w.if-full.false, c.if-full-2.true))
    ] in
    let turn : Turn (get_or next p 0 + c.loop-p.carry) (place_in s p).size c.if-full.values 1 = inr (omega (arith, told, c.if-full-2.true), zero, refl) in
    let so_far : Ahead s c.args.values.now next (p + 1) c.loop-p.carry = subst (λ (n : ℕ). Ahead s c.args.values.now next n c.loop-p.carry) some inv.7 in
    let was : (q : ℕ) → q < p + 1 → get_or next q 0 ≡ get_or c.args.values.now q 0 = λ q h. inv.5 q (omega (arith, some)) in
    let small : (q : ℕ) → p + 1 ≤ q → q < count_in s → get_or next q 0 < (place_in s q).size = λ q low h. inv.6 q (omega (arith, some)) h in
    let positive = (s.small p below).1 in (
      same ∙ inv.0,
      omega arith,
      λ q h. sym (ap (λ (places : List Place). get_or places q no_place) grown ∙ get_or_append_left after _ no_place q h) ∙ inv.2 q (omega arith),
      length-set next p c.if-full.values ∙ inv.3,
      omega arith,
      λ q h. turn_before s c.args.values.now next p below inv.3 room c.loop-p.carry inv.4 was small so_far c.if-full.values 1 turn positive q (omega (arith, num)),
      λ q low h. turn_small s c.args.values.now next p below inv.3 room c.loop-p.carry inv.4 was small so_far c.if-full.values 1 turn positive q (omega (arith, num)) h,
      subst (λ (n : ℕ). Ahead s c.args.values.now (set next p c.if-full.values) n 1) (sym num)
          (turn_done s c.args.values.now next p below inv.3 room c.loop-p.carry inv.4 was small so_far c.if-full.values 1 turn positive),
    )

pub loop-p-preserved : goal.loop-p-preserved
loop-p-preserved c =
    let s = c.args.self.now in
    let p = c.in-Some.p in
    let next = c.loop-p.values in
    let inv = c.loop-p.invariant in
    let (same, (grown, at, bound)) = c.in-Some.ensures.steps in
    let before = c.loop-p.p-iterator.iter.iter.rest.now in
    let after = c.next.new.self.iter.iter.rest.now in
    let last = c.in-Some.place.now in
    let num : length after ≡ p = omega (arith, at, inv.0) in
    let some : length before ≡ p + 1 = ap length grown ∙ length_push after last ∙ ap (λ (n : ℕ). n + 1) num in
    let below : p < count_in s = omega (arith, inv.1) in
    let told : last.size ≡ (place_in s p).size = ap (λ (x : Place). x.size) (sym (ap (λ (places : List Place). get_or places p no_place) grown ∙ get_or_push after last no_place p num) ∙ inv.2 p (omega arith)) in
    let room : p < 4 = (let few = few_places s in omega arith) in
    let sum : c.if-full.values ≡ get_or next p 0 + c.loop-p.carry = elim c.if-full.branch [
      | then-full w ↦ absurd (omega (arith, w.if-full.true, c.if-full-2.false))
      | else-full w ↦ w.values-is
    ] in
    let turn : Turn (get_or next p 0 + c.loop-p.carry) (place_in s p).size c.if-full.values 0 = inl (omega (arith, told, c.if-full-2.false), sum, refl) in
    let so_far : Ahead s c.args.values.now next (p + 1) c.loop-p.carry = subst (λ (n : ℕ). Ahead s c.args.values.now next n c.loop-p.carry) some inv.7 in
    let was : (q : ℕ) → q < p + 1 → get_or next q 0 ≡ get_or c.args.values.now q 0 = λ q h. inv.5 q (omega (arith, some)) in
    let small : (q : ℕ) → p + 1 ≤ q → q < count_in s → get_or next q 0 < (place_in s q).size = λ q low h. inv.6 q (omega (arith, some)) h in
    let positive = (s.small p below).1 in (
      same ∙ inv.0,
      omega arith,
      λ q h. sym (ap (λ (places : List Place). get_or places q no_place) grown ∙ get_or_append_left after _ no_place q h) ∙ inv.2 q (omega arith),
      length-set next p c.if-full.values ∙ inv.3,
      omega arith,
      λ q h. turn_before s c.args.values.now next p below inv.3 room c.loop-p.carry inv.4 was small so_far c.if-full.values 0 turn positive q (omega (arith, num)),
      λ q low h. turn_small s c.args.values.now next p below inv.3 room c.loop-p.carry inv.4 was small so_far c.if-full.values 0 turn positive q (omega (arith, num)) h,
      subst (λ (n : ℕ). Ahead s c.args.values.now (set next p c.if-full.values) n 0) (sym num)
          (turn_done s c.args.values.now next p below inv.3 room c.loop-p.carry inv.4 was small so_far c.if-full.values 0 turn positive),
    )

pub returns-clause-next : goal.returns-clause-next
returns-clause-next c = λ i h same.
    let s = c.args.self.now in
    let sizes = sizes_in s in
    let ys = combination sizes (i + 1) in
    let long = within_length sizes ys (combination_within sizes (i + 1) h) in
    let count = sizes_length s in
    let inv = c.loop-p.invariant in
    let short = length-take-le (count_in s) c.loop-p.values (let few = few_places s in omega (arith, inv.3)) in
    ext_get_or 0 (take (count_in s) c.loop-p.values) ys (omega arith)
    (λ q k. get_or-take (count_in s) c.loop-p.values q 0 (omega arith) ∙ (inv.7 i h same).1 q (omega (arith, c.in-None.ensures.steps.1.0)) (omega arith))

pub returns-clause-small : goal.returns-clause-small
returns-clause-small c = λ p h. c.loop-p.invariant.6 p (omega (arith, c.in-None.ensures.steps.1.0)) h
