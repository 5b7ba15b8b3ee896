use Rattle.std.proofs.Common.{◌≡◌, ℕ, ◌+◌, sym, subst, arith}
use Rattle.joining.specs.Given.{JoinOfGiven}
use Rattle.joining.proofs.OneByOne.{none_joined, one_joined, none_more}
use Rattle.joining.proofs.joined_below.Goals as goal
use Rattle.joining.proofs.joined_below.Goals.{in-Some, in_default}

pub loop-number-init : goal.loop-number-init
loop-number-init g c =
    let v = g.V.Scale in
    none_joined v.rules v.means v.within (goal.F-post g c.args.given) c.neutral-sum.result c.neutral-sum.ensures.means c.neutral-sum.ensures.within

pub loop-number-preserved : goal.loop-number-preserved
loop-number-preserved g c =
    let v = g.V.Scale in
    let gives = goal.F-post g c.args.given in
    let i = c.loop-number.number in
    let old = c.loop-number.sum in
    let so_far = c.loop-number.invariant in
    let After = JoinOfGiven v.rules v.means v.within (i + 1) gives in
    elim c.match-given.branch [
      | in-Some w ↦ subst After (sym w.sum-is) (one_joined v.rules v.means v.within gives i old so_far w.in-Some.value w.join-sum.result (w.in-Some.ensures) w.join-sum.ensures)
      | in_default w ↦ subst After (sym w.sum-is) (none_more v.rules v.means v.within gives i old so_far g.met.V.Scale.laws (w.in_default.ensures))
    ]

pub returns : goal.returns
returns g c =
    let v = g.V.Scale in
    let end : c.loop-number.number ≡ c.args.count = omega (arith, c.loop-number-test.false, c.loop-number.auto.number-end) in
    subst (λ (i : ℕ). JoinOfGiven v.rules v.means v.within i (goal.F-post g c.args.given) c.loop-number.sum) end c.loop-number.invariant
