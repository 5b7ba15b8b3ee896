use Rattle.std.proofs.Common.{sym, subst}
use Rattle.calls.specs.State.{State}
use Rattle.calls.specs.Step.{Begins}
use Rattle.calls.proofs.Within.{empty_begins}
use Rattle.engine.proofs.problem.Problem.start.Goals as goal

pub returns-clause-begins : goal.returns-clause-begins
returns-clause-begins g c =
    let s = g.V.Scale in
    subst (λ (t : State s.Exact). Begins s.rules t) (sym c.empty.ensures) (empty_begins s.rules)
