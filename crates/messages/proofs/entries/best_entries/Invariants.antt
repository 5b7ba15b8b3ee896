use Rattle.std.proofs.Common.{◌≡◌, ℕ, ◌*◌, ◌<◌, get_or, take}
use Rattle.board.specs.SameLent.{SameLent}
use Rattle.theory.specs.Problem.{product}
use Rattle.messages.specs.Combinations.{combination}
use Rattle.messages.specs.Places.{count_in, place_in, sizes_in}
use Rattle.messages.specs.Sent.{function_cell}
use Rattle.messages.specs.Upward.{BestEntries, OnlyAt}
use Rattle.messages.proofs.entries.best_entries.Given as goal

abbrev pub invariant-loop-number : goal.invariant-loop-number
invariant-loop-number g l =
    let v = g.V.Scale in
    let before = l.initial.values.cells.now in
    BestEntries v.rules v.means v.within l.places l.function l.cuts before (l.number * l.last.size) l.best l.values.cells.now
    × OnlyAt (λ k. (x : ℕ) × (x < (place_in l.places l.places.parent).size) × (k ≡ function_cell l.function x)) before l.values.cells.now
    × SameLent l.initial.values l.values
    × (l.number < product (sizes_in l.outer) → take (count_in l.outer) l.combination ≡ combination (sizes_in l.outer) l.number)
    × ((p : ℕ) → p < count_in l.outer → get_or l.combination p 0 < (place_in l.outer p).size)
