use Rattle.std.proofs.Common.{rules, arith}
use Rattle.tables.specs.View.{problem_of}
use Rattle.tables.proofs.Ordered.{within_sizes}
use Rattle.hanging.specs.Forest.{hanging_of}
use Rattle.figures.proofs.JoinedRoots.{roots_joined}
use Rattle.figures.proofs.roots.joined_roots.Goals as goal

pub returns : goal.returns
returns g c =
    let v = g.V.Scale in
    let met = g.met.V.Scale in
    let t = c.args.tables.now in
    roots_joined v.rules v.means (problem_of t) (hanging_of c.args.hung.now) c.args.values.now.cells.now met.laws v.within met.ties (within_sizes t)
    _ c.joined.result c.args.variables (omega (arith, c.requires.variables)) c.joined.ensures (λ u o h given. search rules)
