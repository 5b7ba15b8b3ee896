use Rattle.calls.specs.State.{Call, Answer}
use Rattle.calls.specs.Step.{Step}
use Rattle.engine.proofs.Steps.{step_carries, steady}
use Rattle.engine.proofs.problem.Problem.carry_weight.Goals as goal

pub returns-clause-carries : goal.returns-clause-carries
returns-clause-carries g c =
    let s = g.V.Scale in
    let p = c.args.self.now in
    step_carries s.rules g.met.V.Scale.laws s.means p p (Call.weight c.args.function c.args.place) (λ x. Answer.value (s.means x)) _ c.weigh.result c.weigh.ensures (steady c.weigh.result p)
    (λ x none has. Step.weighed none has.0)
