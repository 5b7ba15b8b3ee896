use Rattle.std.proofs.Common.{arith}
use Rattle.layout.proofs.Shapes.{few_variables, few_functions}
use Rattle.forest.proofs.FactorGraphs.{present_below}
use Rattle.forest.proofs.ends.ends.Goals as goal

pub returns-clause-within : goal.returns-clause-within
returns-clause-within c = let l = c.args.layout.now in grind (arith, few_variables l, few_functions l, present_below l)
