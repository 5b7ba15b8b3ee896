use Rattle.std.proofs.Common.{◌≡◌, ℕ, ◌<◌, eqb}
use Rattle.board.specs.SameLent.{SameLent}
use Rattle.theory.specs.Joins.{joins, when}
use Rattle.theory.specs.Forest.{above}
use Rattle.theory.specs.Messages.{Messages}
use Rattle.theory.specs.Problem.{Plan, functions, size}
use Rattle.joining.specs.Counts.{counts}
use Rattle.messages.specs.Counts.{one_entry}
use Rattle.messages.specs.Holding.{Holds}
use Rattle.messages.specs.Rooted.{problem_in, hanging_in}
use Rattle.messages.specs.Sending.{variable_cells}
use Rattle.messages.specs.Sent.{variable_cell, function_cell}
use Rattle.messages.specs.Upward.{OnlyAt}
use Rattle.messages.proofs.variables.send_variable.Given as goal

abbrev pub invariant-loop-function : goal.invariant-loop-function
invariant-loop-function g l =
    let v = g.V.Scale in
    let P = problem_in l.forest in
    let H = hanging_in l.forest in
    let before = l.initial.values.cells.now in
    ((cut : ℕ → Plan → v.Exact) (m : Messages v.rules P H cut) (n : Messages counts P H one_entry) →
    ((f : ℕ) → f < functions P → above P H f ≡ l.variable → (x : ℕ) → x < size P l.variable → Holds v.means v.within before (function_cell f x) (m.r f x) (n.r f x)) →
    (x : ℕ) → x < size P l.variable →
    Holds v.means v.within l.values.cells.now (variable_cell l.variable x)
    (joins v.rules l.function (λ f. when v.rules (eqb (above P H f) l.variable) (m.r f x)))
    (joins counts l.function (λ f. when counts (eqb (above P H f) l.variable) (n.r f x))))
    × OnlyAt (variable_cells P l.variable) before l.values.cells.now
    × SameLent l.initial.values l.values
