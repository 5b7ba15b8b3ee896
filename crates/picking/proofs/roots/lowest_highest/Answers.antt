use Rattle.std.proofs.Common.{◌+◌, sym, ◌∙◌, subst}
use Rattle.picking.proofs.Lowest.{LowestSoFar, none_seen, best_held, best_raised}
use Rattle.picking.proofs.roots.lowest_highest.Goals as goal
use Rattle.picking.proofs.roots.lowest_highest.Goals.{then-not-at_least, else-not-at_least}

pub loop-value-init : goal.loop-value-init
loop-value-init g c = none_seen g.V.Scale.rules g.V.Scale.means c.args.message.now c.requires

pub loop-value-preserved : goal.loop-value-preserved
loop-value-preserved g c =
    let v = g.V.Scale in
    let laws = g.met.V.Scale.laws in
    let message = c.args.message.now in
    let n = c.loop-value.value in
    let high = c.index-message-best in
    let new = c.index-message-value in
    let After = LowestSoFar v.rules v.means message (n + 1) in
    elim c.if-not-at_least.branch [
      | then-not-at_least w ↦
          subst After (sym w.best-is)
          (best_raised v.rules v.means message laws n c.loop-value.best c.loop-value.invariant high.result new.result high.is new.is c.loop-value-test.true (sym c.at_least.ensures ∙ w.if-not-at_least.true))
      | else-not-at_least w ↦
          subst After (sym w.best-is)
          (best_held v.rules v.means message laws n c.loop-value.best c.loop-value.invariant high.result new.result high.is new.is c.loop-value-test.true (sym c.at_least.ensures ∙ w.if-not-at_least.false))
    ]
