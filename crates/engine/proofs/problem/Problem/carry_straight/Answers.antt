use Rattle.theory.specs.KeptBy.{straight}
use Rattle.solving.specs.Report.{figures_of, stores_of}
use Rattle.std.proofs.Common.{length, refl}
use Rattle.calls.specs.State.{Call, Answer}
use Rattle.calls.specs.Step.{Step}
use Rattle.engine.proofs.Steps.{step_carries, retold}
use Rattle.engine.proofs.problem.Problem.carry_straight.Goals as goal

pub returns-clause-carries : goal.returns-clause-carries
returns-clause-carries g c =
    let s = g.V.Scale in
    let new = c.make_straight.new in
    step_carries s.rules g.met.V.Scale.laws s.means c.args.self.now new.self (Call.solve straight (length c.args.values.now) (length c.args.choices.now))
    (λ x. Answer.solved (figures_of s.means new.report) (stores_of s.means new.values new.choices)) _ c.make_straight.result c.make_straight.ensures.answer c.make_straight.ensures.declined
    (λ x none has. retold refl has.4 (Step.solved none has.0))
