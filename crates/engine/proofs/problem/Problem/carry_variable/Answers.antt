use Rattle.std.proofs.Common.{ap}
use Rattle.calls.specs.State.{Call, Answer}
use Rattle.calls.specs.Step.{Step}
use Rattle.engine.proofs.Steps.{step_carries, retold}
use Rattle.engine.proofs.problem.Problem.carry_variable.Goals as goal

pub returns-clause-carries : goal.returns-clause-carries
returns-clause-carries g c =
    let s = g.V.Scale in
    step_carries s.rules g.met.V.Scale.laws s.means c.args.self.now c.grow.new.self (Call.add_variable c.args.size) Answer.number _ c.grow.result c.grow.ensures.answer c.grow.ensures.declined
    (λ n none has. retold (ap Answer.number has.0) has.1 (Step.variable_added none))
