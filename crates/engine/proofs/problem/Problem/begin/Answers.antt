use Rattle.engine.proofs.Reading.{begun}
use Rattle.engine.proofs.problem.Problem.begin.Goals as goal

pub returns-clause-answer : goal.returns-clause-answer
returns-clause-answer g c = begun g.V.Scale.rules g.V.Scale.means c.replace.new.self c.args.bytes.now c.replace.result c.replace.ensures.answer
