use Rattle.hanging.proofs.FunctionSet.{inserted}
use Rattle.hanging.proofs.function_set.FunctionSet.insert.Goals as goal

pub returns : goal.returns
returns c = inserted c.args.self.now.word c.args.f c.requires
