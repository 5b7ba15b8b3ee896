use Rattle.std.proofs.Common.{◌≡◌, ◌+◌, ◌<◌, length, sym, ap, subst, arith}
use Rattle.theory.specs.Kept.{kept_at}
use Rattle.layout.specs.View.{domains_of}
use Rattle.hanging.proofs.Parts.{PartsHung, parts_none, part_same, part_hung}
use Rattle.hanging.proofs.Forest.{hangs_forest}
use Rattle.hanging.proofs.hung.hanging.hung_parts.Goals as goal
use Rattle.hanging.proofs.hung.hanging.hung_parts.Goals.{then-not-hung-v, else-not-hung-v}

pub loop-v-init : goal.loop-v-init
loop-v-init c =
    parts_none c.none-hung.ensures c.args.layout.now (kept_at c.args.kept.now.words)

pub loop-v-preserved : goal.loop-v-preserved
loop-v-preserved c =
    let l = c.args.layout.now in
    let K = kept_at c.args.kept.now.words in
    let v = c.loop-v.v in
    let small : v < length (domains_of l) = omega (arith, c.loop-v-test.true, ap length c.domains-v-end.ensures) in
    elim c.if-not-hung-v.branch [
      | then-not-hung-v w ↦ subst (λ s. PartsHung l K s (v + 1)) (sym w.hung-is) (part_hung l K v c.loop-v.invariant small w.if-not-hung-v.true w.hang_variable.ensures)
      | else-not-hung-v w ↦ subst (λ s. PartsHung l K s (v + 1)) (sym w.hung-is) (part_same l K c.loop-v.invariant w.if-not-hung-v.false)
    ]

pub returns : goal.returns
returns c = λ P shaped.
    let l = c.args.layout.now in
    let K = kept_at c.args.kept.now.words in
    let end : c.loop-v.v ≡ length (domains_of l) = omega (arith, c.loop-v-test.false, c.loop-v.auto.v-end, ap length c.domains-v-end.ensures) in
    hangs_forest l K (subst (λ i. PartsHung l K c.loop-v.hung i) end c.loop-v.invariant) P shaped
