use Rattle.forest.proofs.FactorGraphs.{present_below}
use Rattle.forest.proofs.Along.{upto_none, upto_more}
use Rattle.forest.proofs.keeping.parts_along.Goals as goal

pub loop-link-init : goal.loop-link-init
loop-link-init c = upto_none _ _ _ _ c.none.ensures c.alone.ensures

pub loop-link-preserved : goal.loop-link-preserved
loop-link-preserved c = upto_more _ (present_below c.args.layout.now) _ _ _ _ _ _ c.loop-link.invariant c.consider.ensures
