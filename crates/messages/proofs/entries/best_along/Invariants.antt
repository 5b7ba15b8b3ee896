use Rattle.std.proofs.Common.{◌+◌}
use Rattle.messages.specs.Rows.{parent_at}
use Rattle.messages.specs.Upward.{BestAt}
use Rattle.messages.proofs.entries.best_along.Given as goal

abbrev pub invariant-loop-x : goal.invariant-loop-x
invariant-loop-x g l =
    let v = g.V.Scale in
    BestAt v.rules v.means v.within l.places l.cuts l.values.cells.now (l.row.at + l.x) (parent_at l.places l.row.at) l.best.0 l.best.1
