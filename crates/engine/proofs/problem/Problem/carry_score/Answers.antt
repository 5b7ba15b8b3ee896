use Rattle.std.proofs.Common.{refl, ap}
use Rattle.calls.specs.State.{Call, Answer}
use Rattle.calls.specs.Step.{Step}
use Rattle.engine.proofs.Steps.{step_carries, retold, steady}
use Rattle.engine.proofs.problem.Problem.carry_score.Goals as goal

pub returns-clause-carries : goal.returns-clause-carries
returns-clause-carries g c =
    let s = g.V.Scale in
    let p = c.args.self.now in
    step_carries s.rules g.met.V.Scale.laws s.means p p (Call.score c.args.list.now) (λ x. Answer.value (s.means x)) _ c.score_of.result c.score_of.ensures (steady c.score_of.result p)
    (λ x none has. retold (ap Answer.value has.0) refl (Step.scored none))
