-- The sizes of the places of a function. Assumes nothing.
use Rattle.std.proofs.Common.{◌≡◌, ℕ, ◌+◌, ◌*◌, ◌<◌, ◌≤◌, cond, List, length, get_or, take, sym, ap, ◌∙◌, ap₂, arith}
use Rattle.std.proofs.lemmas.List.{get_or-map, get_or-take, length-map, length-take-le, take_all}
use Rattle.theory.specs.Problem.{index}
use Rattle.theory.proofs.Index.{Within, index_below}
use Rattle.short_list.proofs.Lengths.{few_items}
use Rattle.messages.specs.declared.place.Place.{Place}
use Rattle.messages.specs.declared.places.Places.{Places}
use Rattle.messages.specs.Combinations.{cleared}
use Rattle.messages.specs.Place.{no_place}
use Rattle.messages.specs.Places.{places_in, count_in, place_in, sizes_in}
use Rattle.messages.proofs.Combining.{within_each, within_take, within_length, cleared_within, cleared_at, one_more, product_small}

module _ (s : Places) where
  pub few_places : count_in s ≤ 4
  few_places = few_items s.list

  -- a place of the list that a walk goes over
  pub place_is : {list : List Place} → list ≡ places_in s → (p : ℕ) → get_or list p no_place ≡ place_in s p
  place_is told p = ap (λ (places : List Place). get_or places p no_place) told

  pub sizes_length : length (sizes_in s) ≡ count_in s
  sizes_length = length-map (places_in s) (λ (p : Place). p.size)

  pub size_is : (p : ℕ) → p < count_in s → get_or (sizes_in s) p 0 ≡ (place_in s p).size
  size_is p h = get_or-map (λ (x : Place). x.size) (places_in s) p no_place 0 h

  -- Some values at the places, with 0 at the removed ones, and the position of the first p of them.
  module _ (values : List ℕ) (four : length values ≡ 4) (fits : (p : ℕ) → p < count_in s → get_or values p 0 < (place_in s p).size) where
    abbrev pub shown_values : List ℕ
    shown_values = cleared (λ q. (place_in s q).kept) (take (count_in s) values)

    long : length (take (count_in s) values) ≡ count_in s
    long = length-take-le (count_in s) values (let few = few_places in omega arith)

    all_within : Within (sizes_in s) (take (count_in s) values)
    all_within = let n = long in let m = sizes_length in within_each (sizes_in s) (take (count_in s) values) (omega arith) (λ p h.
        omega (arith, get_or-take (count_in s) values p 0 (omega arith), size_is p (omega arith), fits p (omega arith)))

    pub shown_within : Within (sizes_in s) shown_values
    shown_within = cleared_within (λ q. (place_in s q).kept) (sizes_in s) (take (count_in s) values) all_within

    pub shown_at : (p : ℕ) → p < count_in s → get_or shown_values p 0 ≡ cond (place_in s p).kept (get_or values p 0) 0
    shown_at p h =
        cleared_at (λ q. (place_in s q).kept) (take (count_in s) values) p (let n = long in omega arith)
        ∙ ap (λ (x : ℕ). cond (place_in s p).kept x 0) (get_or-take (count_in s) values p 0 h)

    pub shown_step : (p : ℕ) → p < count_in s →
        index (take p (sizes_in s)) (take p shown_values) * (place_in s p).size + cond (place_in s p).kept (get_or values p 0) 0 ≡ index (take (p + 1) (sizes_in s)) (take (p + 1) shown_values)
    shown_step p h =
        let here = index (take p (sizes_in s)) (take p shown_values) in
        ap₂ (λ (n m : ℕ). here * n + m) (sym (size_is p h)) (sym (shown_at p h)) ∙ one_more (sizes_in s) shown_values shown_within p (let n = sizes_length in omega arith)

    pub shown_small : (p : ℕ) → p ≤ count_in s → index (take p (sizes_in s)) (take p shown_values) < 65536
    shown_small p h =
        let n = sizes_length in
        let short = length-take-le p (sizes_in s) (omega arith) in
        let four = few_places in
        let few = product_small (take p (sizes_in s)) (omega arith) (λ q k. omega (arith, get_or-take p (sizes_in s) q 0 (omega arith), size_is q (omega arith), (s.small q (omega arith)).2)) in
        omega (arith, index_below (take p (sizes_in s)) (take p shown_values) (within_take (sizes_in s) shown_values shown_within p))

    pub shown_all : index (take (count_in s) (sizes_in s)) (take (count_in s) shown_values) ≡ index (sizes_in s) shown_values
    shown_all =
        let n = sizes_length in
        ap₂ index (take_all (count_in s) (sizes_in s) (omega arith)) (take_all (count_in s) shown_values (omega (arith, within_length (sizes_in s) shown_values shown_within)))
