use Rattle.std.proofs.Common.{◌≡◌, ℕ, ◌+◌, ◌/◌, ◌%◌, ◌<◌, ◌≤◌, List, length, get_or, take, sym, ap, ◌∙◌, subst, ap₂, inl, inr, mod-lt, arith}
use Rattle.std.proofs.lemmas.List.{ext_get_or, get_or-set_same, get_or-set_other, get_or-take, get_or_append_left, get_or_push, length-set, length_push, length-take-le, take_all}
use Rattle.std.proofs.lemmas.Bool.{cases_eq}
use Rattle.theory.specs.Problem.{index}
use Rattle.messages.specs.declared.place.Place.{Place}
use Rattle.messages.specs.Combinations.{combination}
use Rattle.messages.specs.Place.{no_place}
use Rattle.messages.specs.Places.{places_in, count_in, place_in, sizes_in}
use Rattle.messages.proofs.Combining.{combination_within, index_combination, within_length, last_value, rest_value}
use Rattle.messages.proofs.PlaceSizes.{few_places, sizes_length, size_is}
use Rattle.messages.proofs.places.Places.unpacked.Goals as goal

pub loop-p-init : goal.loop-p-init
loop-p-init c =
    let s = c.args.self.now in
    let sizes = sizes_in s in
    let i = c.args.index in
    let source = ap (λ r. r.iter) c.into_iter-p-iterator.ensures.into_iter_gives ∙ c.rev-p-items.ensures.source in
    let ahead = c.into_iter-p-iterator.result.iter.iter.rest.now in
    let all : ahead ≡ places_in s = ap (λ e. e.iter.rest.now) source ∙ ap (λ r. r.rest.now) c.enumerate.ensures.source ∙ c.iter.ensures.rest ∙ c.list.ensures.list in
    let count = ap length all in (
      ap (λ e. e.count) source ∙ c.enumerate.ensures.count,
      omega arith,
      λ q h. ap (λ (places : List Place). get_or places q no_place) all,
      omega arith,
      λ q least under. absurd (omega arith),
      λ h. (
        sym (index_combination sizes i h)
            ∙ sym (ap₂ index (take_all (length ahead) sizes (omega (arith, sizes_length s)))
            (take_all (length ahead) (combination sizes i) (omega (arith, within_length sizes (combination sizes i) (combination_within sizes i h), sizes_length s)))),
        λ q least below. absurd (omega arith),
      ),
    )

pub loop-p-preserved : goal.loop-p-preserved
loop-p-preserved c =
    let s = c.args.self.now in
    let sizes = sizes_in s in
    let i = c.args.index in
    let p = c.in-Some.p in
    let vs = c.loop-p.values in
    let inv = c.loop-p.invariant in
    let (same, (grown, at, bound)) = c.in-Some.ensures.steps in
    let before = c.loop-p.p-iterator.iter.iter.rest.now in
    let after = c.next.new.self.iter.iter.rest.now in
    let last = c.in-Some.place.now in
    let num : length after ≡ p = omega (arith, at, inv.0) in
    let some : length before ≡ p + 1 = ap length grown ∙ length_push after last ∙ ap (λ (n : ℕ). n + 1) num in
    let below : p < count_in s = omega (arith, inv.1) in
    let told : last.size ≡ (place_in s p).size = ap (λ (x : Place). x.size) (sym (ap (λ (places : List Place). get_or places p no_place) grown ∙ get_or_push after last no_place p num) ∙ inv.2 p (omega arith)) in
    let some-size : 1 ≤ last.size = omega (arith, told, (s.small p below).1) in
    let digit = c.parted-more.result.1 in
    let parted = c.parted-more.ensures in
    let here = size_is s p below ∙ sym told in
    let room : p < length vs = (let few = few_places s in omega (arith, inv.3)) in (
      same ∙ inv.0,
      omega arith,
      λ q h. sym (ap (λ (places : List Place). get_or places q no_place) grown ∙ get_or_append_left after _ no_place q h) ∙ inv.2 q (omega arith),
      length-set vs p digit ∙ inv.3,
      λ q least under. elim (cases_eq q p) [
        | inl e ↦ rw e (subst (λ (n : ℕ). n < (place_in s p).size) (sym (get_or-set_same vs p digit 0 room)) (omega (arith, told, parted.left, mod-lt c.loop-p.rest some-size)))
        | inr d ↦ subst (λ (n : ℕ). n < (place_in s q).size) (sym (get_or-set_other vs p q digit 0 d)) (inv.4 q (omega arith) under)
      ],
      λ h.
          let xs = combination sizes i in
          let w = combination_within sizes i h in
          let (rest, done) = inv.5 h in
          let long = sizes_length s in
          let now-rest : c.loop-p.rest ≡ index (take (p + 1) sizes) (take (p + 1) xs) = rest ∙ ap (λ (n : ℕ). index (take n sizes) (take n xs)) some in (
            parted.quotient ∙ ap₂ (λ (n m : ℕ). n / m) now-rest (sym here) ∙ rest_value sizes xs w p (omega arith) ∙ ap (λ (n : ℕ). index (take n sizes) (take n xs)) (sym num),
            λ q least under. elim (cases_eq q p) [
              | inl e ↦ rw e (get_or-set_same vs p digit 0 room ∙ parted.left ∙ ap₂ (λ (n m : ℕ). n % m) now-rest (sym here) ∙ last_value sizes xs w p (omega arith))
              | inr d ↦ get_or-set_other vs p q digit 0 d ∙ done q (omega arith) under
            ],
          ),
    )

pub returns-clause-values : goal.returns-clause-values
returns-clause-values c = λ h.
    let s = c.args.self.now in
    let sizes = sizes_in s in
    let xs = combination sizes c.args.index in
    let long = within_length sizes xs (combination_within sizes c.args.index h) in
    let count = sizes_length s in
    let inv = c.loop-p.invariant in
    let short = length-take-le (count_in s) c.loop-p.values (let few = few_places s in omega (arith, inv.3)) in
    ext_get_or 0 (take (count_in s) c.loop-p.values) xs (omega arith)
    (λ q k. get_or-take (count_in s) c.loop-p.values q 0 (omega arith) ∙ (inv.5 h).1 q (omega (arith, c.in-None.ensures.steps.1.0)) (omega arith))

pub returns-clause-small : goal.returns-clause-small
returns-clause-small c = λ p h. c.loop-p.invariant.4 p (omega (arith, c.in-None.ensures.steps.1.0)) h
