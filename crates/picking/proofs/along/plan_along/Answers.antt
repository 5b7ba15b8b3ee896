use Rattle.std.proofs.Common.{◌≡◌, ℕ, length, get_or, sym, ap, ◌∙◌, subst, arith}
use Rattle.hanging.specs.declared.node.Node.{Node}
use Rattle.hanging.specs.Hung.{no_node, count_of}
use Rattle.messages.specs.Rooted.{problem_in, hanging_in}
use Rattle.picking.specs.Steps.{Given}
use Rattle.picking.proofs.Leading.{some_cell}
use Rattle.picking.proofs.OrderSteps.{Along, none_along, along_more, done_led_to}
use Rattle.picking.proofs.along.plan_along.Goals as goal

pub loop-node-init : goal.loop-node-init
loop-node-init g c =
    let s = g.V.Scale in
    let cells = c.args.values.now.cells.now in
    let choices = c.args.choices.now.cells.now in
    let r = c.args.forest.now in
    subst (Along s.rules s.means cells choices r 0) (sym c.empty-draft.ensures) (none_along s.rules s.means cells choices r)

pub loop-node-preserved : goal.loop-node-preserved
loop-node-preserved g c =
    let s = g.V.Scale in
    let r = c.args.forest.now in
    let cells = c.args.values.now.cells.now in
    let choices = c.args.choices.now.cells.now in
    let before = c.loop-node.draft.values in
    let after = c.pick_at.new.draft.values in
    let i = c.loop-node.node-index in
    let all = ap length c.order-node-items.ensures in
    along_more s.rules s.means cells choices r c.requires.rooted
    i (omega (arith, all, c.loop-node-test.true)) before after c.loop-node.invariant
    (subst (λ (a : Node). Given s.rules s.means (problem_in r) (hanging_in r) cells choices a before after) (ap (λ nodes. get_or nodes i no_node) c.order-node-items.ensures) c.pick_at.ensures)

pub returns : goal.returns
returns g c =
    let s = g.V.Scale in
    let r = c.args.forest.now in
    let cells = c.args.values.now.cells.now in
    let choices = c.args.choices.now.cells.now in
    let draft = c.loop-node.draft in
    let end : c.loop-node.node-index ≡ count_of r.hung.now = omega (arith, ap length c.order-node-items.ensures, c.loop-node-test.false, c.loop-node.auto.node-index-end) in
    let done = subst (Along s.rules s.means cells choices r (count_of r.hung.now)) (sym c.plan.ensures) (subst (λ (i : ℕ). Along s.rules s.means cells choices r i draft.values) end c.loop-node.invariant) in
    record {
      long = ap length c.plan.ensures ∙ draft.small.long;
      past = done.past;
      chosen = done_led_to s.rules s.means cells choices r c.requires.rooted c.plan.result done g.met.V.Scale.laws s.within (some_cell cells (omega (arith, c.requires.values, c.args.values.now.whole)));
    }
