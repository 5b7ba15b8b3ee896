use Rattle.std.proofs.Common.{◌≡◌}
use Rattle.tables.specs.View.{problem_of}
use Rattle.spanning.proofs.Written.{Weighed}
use Rattle.spanning.proofs.weighing.weigh_links.Given as goal

abbrev pub invariant-loop-link : goal.invariant-loop-link
invariant-loop-link g l =
    let v = g.V.Scale in
    Weighed v.rules v.means (v.within 2) (problem_of l.tables) l.initial.values.cells.now l.values.cells.now l.link
    × (l.values.rows ≡ l.initial.values.rows)
    × (l.values.cells.ghost_name ≡ l.initial.values.cells.ghost_name)
