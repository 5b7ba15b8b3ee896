use Rattle.std.proofs.Common.{rules, arith}
use Rattle.hanging.proofs.FunctionSet.{first_out}
use Rattle.hanging.proofs.function_set.FunctionSet.take_first.Goals as goal

pub returns : goal.returns
returns c = first_out c.args.self.now.word (omega (arith, c.if-self-eq0.false)) (search rules)
