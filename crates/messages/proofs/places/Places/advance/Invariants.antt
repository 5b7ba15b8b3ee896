use Rattle.std.proofs.Common.{◌≡◌, ℕ, ◌<◌, ◌≤◌, length, get_or}
use Rattle.messages.specs.Place.{no_place}
use Rattle.messages.specs.Places.{count_in, place_in}
use Rattle.messages.proofs.Following.{Ahead}
use Rattle.messages.proofs.places.Places.advance.Given as goal

-- `ahead` are the first places, which are still to come, and to which the carry is to be added
abbrev pub invariant-loop-p : goal.invariant-loop-p
invariant-loop-p l =
    let ahead = l.p-iterator.iter.iter.rest.now in
    let p = length ahead in
    (l.p-iterator.iter.count ≡ 0)
    × (p ≤ count_in l.self)
    × ((q : ℕ) → q < p → get_or ahead q no_place ≡ place_in l.self q)
    × (length l.values ≡ 4)
    × (l.carry ≤ 1)
    × ((q : ℕ) → q < p → get_or l.values q 0 ≡ get_or l.initial.values q 0)
    × ((q : ℕ) → p ≤ q → q < count_in l.self → get_or l.values q 0 < (place_in l.self q).size)
    × Ahead l.self l.initial.values l.values p l.carry
