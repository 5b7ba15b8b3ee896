use Rattle.std.proofs.Common.{◌≡◌, ℕ, ◌<◌, ◌≤◌, length, get_or, take}
use Rattle.theory.specs.Problem.{product, index}
use Rattle.messages.specs.Combinations.{combination}
use Rattle.messages.specs.Place.{no_place}
use Rattle.messages.specs.Places.{count_in, place_in, sizes_in}
use Rattle.messages.proofs.places.Places.unpacked.Given as goal

-- `ahead` are the first places, which are still to come
abbrev pub invariant-loop-p : goal.invariant-loop-p
invariant-loop-p l =
    let ahead = l.p-iterator.iter.iter.rest.now in
    let p = length ahead in
    (l.p-iterator.iter.count ≡ 0)
    × (p ≤ count_in l.self)
    × ((q : ℕ) → q < p → get_or ahead q no_place ≡ place_in l.self q)
    × (length l.values ≡ 4)
    × ((q : ℕ) → p ≤ q → q < count_in l.self → get_or l.values q 0 < (place_in l.self q).size)
    × (l.index < product (sizes_in l.self) →
    (l.rest ≡ index (take p (sizes_in l.self)) (take p (combination (sizes_in l.self) l.index)))
    × ((q : ℕ) → p ≤ q → q < count_in l.self → get_or l.values q 0 ≡ get_or (combination (sizes_in l.self) l.index) q 0))
