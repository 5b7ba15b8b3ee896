use Rattle.std.proofs.Common.{◌≡◌, ℕ, ◌+◌, subst, arith}
use Rattle.theory.proofs.Topmost.{upward}
use Rattle.weights.specs.Swings.{SwingFrom, Widest}
use Rattle.weights.proofs.Bases.{in_block, lines, some_stride}
use Rattle.weights.proofs.Running.{first, next, swing_one}
use Rattle.weights.proofs.swings.Line.widest_of_block.Goals as goal

pub loop-later-init : goal.loop-later-init
loop-later-init g c =
    let w = g.V.Scale in
    let laws = g.met.V.Scale.laws in
    let l = c.args.self in
    let Swings = SwingFrom w.rules l.table.now l.values l.stride in
    let at : c.args.from ≡ c.args.from + 0 = omega arith in
    first (upward w.rules laws) w.means (w.within 2) (λ k. Swings (c.args.from + k)) (swing_one w.rules laws l.table.now l.values l.stride (c.args.from + 0)) c.swing-widest.result
    (subst (λ (from : ℕ). Swings from (w.means c.swing-widest.result)) at c.swing-widest.ensures.value)
    c.swing-widest.ensures.within

pub swing-requires : goal.swing-requires
swing-requires g c x h =
    let l = c.args.self in
    omega (arith, in_block l.values l.stride c.loop-later.later x c.loop-later-test.true h, c.requires)

pub loop-later-preserved : goal.loop-later-preserved
loop-later-preserved g c =
    let w = g.V.Scale in
    let laws = g.met.V.Scale.laws in
    let l = c.args.self in
    let k = c.loop-later.later in
    next (upward w.rules laws) w.means (w.within 2) (λ k. SwingFrom w.rules l.table.now l.values l.stride (c.args.from + k)) k (swing_one w.rules laws l.table.now l.values l.stride (c.args.from + k))
    c.loop-later.widest c.swing.result c.loop-later.invariant c.swing.ensures.value c.swing.ensures.within c.higher-widest.result c.higher-widest.ensures

pub returns-clause-value : goal.returns-clause-value
returns-clause-value g c =
    let w = g.V.Scale in
    let l = c.args.self in
    let inv = c.loop-later.invariant in
    let some = some_stride l.values l.stride _ _ (lines l.values l.stride _ l.whole) l.some in
    let end : c.loop-later.later ≡ l.stride = omega (arith, c.loop-later.auto.later-end some) in
    subst (λ (k : ℕ). Widest w.rules l.table.now l.values l.stride (λ r. c.args.from + r) k (w.means c.loop-later.widest)) end (record { attained = inv.attained; bound = inv.bound })
