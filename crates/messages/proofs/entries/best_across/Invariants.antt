use Rattle.std.proofs.Common.{◌≡◌, ℕ, ◌+◌, ◌<◌, length}
use Rattle.board.specs.SameLent.{SameLent}
use Rattle.messages.specs.Places.{place_in}
use Rattle.messages.specs.Sent.{function_cell}
use Rattle.messages.specs.Upward.{BestEntries, OnlyAt}
use Rattle.messages.proofs.entries.best_across.Given as goal

abbrev pub invariant-loop-x : goal.invariant-loop-x
invariant-loop-x g l =
    let v = g.V.Scale in
    let before = l.initial.values.cells.now in
    (length l.best ≡ 16)
    × BestEntries v.rules v.means v.within l.places l.function l.cuts before (l.row.at + l.x) l.best l.values.cells.now
    × OnlyAt (λ k. (x : ℕ) × (x < (place_in l.places l.places.parent).size) × (k ≡ function_cell l.function x)) before l.values.cells.now
    × SameLent l.initial.values l.values
