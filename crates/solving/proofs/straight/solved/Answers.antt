use Rattle.std.proofs.Common.{List, ℕ, subst₂, rules}
use Rattle.theory.specs.KeptBy.{straight}
use Rattle.tables.specs.View.{problem_of}
use Rattle.tables.proofs.Ordered.{within_sizes}
use Rattle.rules.specs.Report.{Solved}
use Rattle.rules.proofs.Guarantees.{report_guaranteed, straight_highest}
use Rattle.calls.proofs.Promised.{differ}
use Rattle.solving.specs.Report.{figures_of, stores_of}
use Rattle.solving.proofs.straight.solved.Goals as goal

pub returns-clause-solved : goal.returns-clause-solved
returns-clause-solved g c =
    let s = g.V.Scale in
    subst₂ (λ (x : List g.row.V.Denot) (y : List ℕ). Solved s.rules (problem_of c.args.tables.now) straight (figures_of s.means c.solve_on.result) (stores_of s.means x y))
    (search rules) (search rules) c.solve_on.ensures.solved

pub returns-clause-guaranteed : goal.returns-clause-guaranteed
returns-clause-guaranteed g c =
    let t = c.args.tables.now in
    report_guaranteed g.V.Scale.rules g.met.V.Scale.laws (problem_of t) (within_sizes t).sound straight (λ d. absurd (differ d)) _ _ c.solve_on.ensures.solved

pub returns-clause-highest : goal.returns-clause-highest
returns-clause-highest g c =
    let t = c.args.tables.now in
    straight_highest g.V.Scale.rules g.met.V.Scale.laws (problem_of t) (within_sizes t).sound _ _ c.solve_on.ensures.solved
