use Rattle.std.proofs.Common.{◌≡◌, ℕ, ◌<◌, get_or}
use Rattle.board.specs.SameLent.{SameLent}
use Rattle.joining.specs.Standing.{JoinOf}
use Rattle.messages.specs.Sent.{variable_cell, function_cell}
use Rattle.messages.specs.Upward.{OnlyAt}
use Rattle.messages.proofs.variables.join_row.Given as goal

abbrev pub invariant-loop-x : goal.invariant-loop-x
invariant-loop-x g l =
    let v = g.V.Scale in
    let before = l.initial.values.cells.now in
    ((x : ℕ) (d : g.row.V.Denot) → x < l.x → JoinOf v.rules v.means v.within (get_or before (variable_cell l.variable x) d) (get_or before (function_cell l.function x) d) (get_or l.values.cells.now (variable_cell l.variable x) d))
    × OnlyAt (λ k. (x : ℕ) × (x < l.x) × (k ≡ variable_cell l.variable x)) before l.values.cells.now
    × SameLent l.initial.values l.values
