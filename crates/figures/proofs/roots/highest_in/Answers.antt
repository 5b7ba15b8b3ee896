use Rattle.std.proofs.Common.{arith}
use Rattle.figures.proofs.Highest.{none_seen, next_seen}
use Rattle.figures.proofs.roots.highest_in.Goals as goal

pub loop-value-init : goal.loop-value-init
loop-value-init g c = none_seen g.V.Scale.rules g.V.Scale.means c.args.values.now c.index-values-0.result c.index-values-0.is c.requires

pub loop-value-preserved : goal.loop-value-preserved
loop-value-preserved g c =
    let v = g.V.Scale in
    let new = c.value-item in
    next_seen v.rules v.means c.args.values.now g.met.V.Scale.laws c.loop-value.value-index c.loop-value.best new.result c.loop-value.invariant new.is c.loop-value-test.true c.higher-best.result c.higher-best.ensures

pub returns : goal.returns
returns g c = record {
  attained = c.loop-value.invariant.attained;
  bound = λ x h. c.loop-value.invariant.bound x (omega (arith, c.loop-value-test.false));
}
