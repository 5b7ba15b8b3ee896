use Rattle.std.proofs.Common.{◌+◌, subst, sym, arith}
use Rattle.theory.specs.Kept.{kept_at}
use Rattle.layout.proofs.Shapes.{few_functions}
use Rattle.hanging.proofs.Collecting.{Collected, collected_none, collected_same, collected_more, all_collected}
use Rattle.hanging.proofs.around.functions_around.Goals as goal
use Rattle.hanging.proofs.around.functions_around.Goals.{in-Some, in_default}

pub loop-link-init : goal.loop-link-init
loop-link-init c = collected_none c.args.layout.now (kept_at c.args.kept.now.words) c.none-around.result c.none-around.ensures

pub loop-link-preserved : goal.loop-link-preserved
loop-link-preserved c =
    let l = c.args.layout.now in
    let K = kept_at c.args.kept.now.words in
    let i = c.loop-link.link in
    elim c.match-variable.branch [
      | in-Some w ↦
          subst (λ s. Collected l K s (i + 1)) (sym w.around-is)
          (collected_more l K i c.loop-link.invariant w.in-Some.v w.in-Some.ensures.0 w.in-Some.ensures.1 w.insert.new.self w.insert.ensures)
      | in_default w ↦ subst (λ s. Collected l K s (i + 1)) (sym w.around-is) (collected_same l K i c.loop-link.invariant w.in_default.ensures)
    ]

pub returns : goal.returns
returns c =
    let l = c.args.layout.now in
    all_collected l (kept_at c.args.kept.now.words) c.loop-link.link
    (omega (arith, c.loop-link-test.false, c.loop-link.auto.link-end, c.functions-link-end.ensures, few_functions l))
    c.loop-link.invariant
