use Rattle.std.proofs.Common.{List, ℕ, subst₂, rules}
use Rattle.theory.specs.KeptBy.{bounded}
use Rattle.tables.specs.View.{problem_of}
use Rattle.tables.proofs.Ordered.{within_sizes}
use Rattle.rules.specs.Report.{Solved}
use Rattle.rules.proofs.Guarantees.{lightest_guaranteed}
use Rattle.solving.specs.Report.{figures_of, stores_of}
use Rattle.solving.proofs.bounded.solved.Goals as goal

pub returns-clause-solved : goal.returns-clause-solved
returns-clause-solved g c =
    let s = g.V.Scale in
    subst₂ (λ (x : List g.row.V.Denot) (y : List ℕ). Solved s.rules (problem_of c.args.tables.now) bounded (figures_of s.means c.solve_on.result) (stores_of s.means x y))
    (search rules) (search rules) c.solve_on.ensures.solved

pub returns-clause-lightest : goal.returns-clause-lightest
returns-clause-lightest g c =
    let t = c.args.tables.now in
    lightest_guaranteed g.V.Scale.rules g.met.V.Scale.laws g.met.V.Measuring.gaps (problem_of t) (within_sizes t).sound bounded _ _ c.solve_on.ensures.solved
