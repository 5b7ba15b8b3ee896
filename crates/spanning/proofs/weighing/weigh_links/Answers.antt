use Rattle.std.proofs.Common.{◌≡◌, ℕ, ◌+◌, ◌*◌, ◌/◌, ◌%◌, ◌≤◌, length, ◌∙◌, subst, arith}
use Rattle.tables.specs.View.{problem_of}
use Rattle.spanning.proofs.Written.{LinkWeight, Weighed, weighed_more, all_weights, none_weighed, all_fine}
use Rattle.spanning.proofs.weighing.weigh_links.Goals as goal

pub loop-link-preserved : goal.loop-link-preserved
loop-link-preserved g c =
    let s = g.V.Scale in
    let P = problem_of c.args.tables.now in
    let before = c.args.values.now.cells.now in
    let n = c.loop-link.link in
    let v = c.weigh_link.result in
    let weighs = c.weigh_link.ensures in
    let inv = c.loop-link.invariant in
    let room : 2304 ≤ length before = omega (arith, c.requires, c.args.values.now.whole) in
    let weight : LinkWeight s.rules s.means (s.within 2) P n v = record { weighs = weighs.weighs; unweighed = weighs.unweighed; fine = weighs.within } in (
      weighed_more s.rules s.means (s.within 2) P before c.loop-link.values.cells.now n v c.loop-link-test.true room weight inv.0
          (16 * (128 + n / 16) + n % 16) c.put.new.self.cells.now c.put.ensures.after (omega arith),
      c.put.ensures.same.rows ∙ inv.1,
      c.put.ensures.same.lent ∙ inv.2,
    )

pub returns : goal.returns
returns g c =
    let s = g.V.Scale in
    let t = c.args.tables.now in
    let before = c.args.values.now.cells.now in
    let after = c.loop-link.values.cells.now in
    let inv = c.loop-link.invariant in
    let end : c.loop-link.link ≡ 256 = omega arith in
    let done = subst (λ (n : ℕ). Weighed s.rules s.means (s.within 2) (problem_of t) before after n) end inv.0 in
    let room : 2304 ≤ length after = omega (arith, c.requires, c.args.values.now.whole, inv.0.others.long) in
    record {
      weights = all_weights s.rules s.means after room (s.within 2) t before done;
      unweighed = none_weighed s.rules s.means after room (s.within 2) t before done;
      within = all_fine s.rules s.means after room (s.within 2) t before done;
      others = inv.0.others;
      same = record { rows = inv.1; long = inv.0.others.long; lent = inv.2 };
    }
