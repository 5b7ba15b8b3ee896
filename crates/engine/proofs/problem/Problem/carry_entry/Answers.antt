use Rattle.std.proofs.Common.{refl}
use Rattle.calls.specs.State.{Call, Answer}
use Rattle.calls.specs.Step.{Step}
use Rattle.engine.proofs.Steps.{step_carries, retold}
use Rattle.engine.proofs.problem.Problem.carry_entry.Goals as goal

pub returns-clause-carries : goal.returns-clause-carries
returns-clause-carries g c =
    let s = g.V.Scale in
    step_carries s.rules g.met.V.Scale.laws s.means c.args.self.now c.store.new.self (Call.set_entry c.args.function c.args.index c.args.word) (λ x. Answer.done) _ c.store.result c.store.ensures.answer c.store.ensures.declined
    (λ x none has. retold refl has (Step.entry_set none))
