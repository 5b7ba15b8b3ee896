use Rattle.std.proofs.Common.{◌≡◌, ℕ, ◌*◌, ◌<◌, get_or, take}
use Rattle.theory.specs.Problem.{product}
use Rattle.messages.specs.Combinations.{combination}
use Rattle.messages.specs.Places.{count_in, place_in, sizes_in, CutTo}
use Rattle.messages.proofs.cutting.lay_cut.Given as goal

abbrev pub invariant-loop-number : goal.invariant-loop-number
invariant-loop-number g l =
    CutTo g.V.Scale.rules l.places l.table (l.number * l.last.size) l.words
    × (l.number < product (sizes_in l.outer) → take (count_in l.outer) l.values ≡ combination (sizes_in l.outer) l.number)
    × ((p : ℕ) → p < count_in l.outer → get_or l.values p 0 < (place_in l.outer p).size)
