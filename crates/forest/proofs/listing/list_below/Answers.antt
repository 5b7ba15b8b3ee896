use Rattle.std.proofs.Common.{◌≡◌, ℕ, ◌<◌, length, take, sym, ◌∙◌, subst, arith, rules}
use Rattle.std.proofs.lemmas.List.{take_more_set}
use Rattle.layout.proofs.Shapes.{few_functions}
use Rattle.forest.specs.FactorGraph.{layout_graph}
use Rattle.forest.proofs.Lists.{ListedBelow, listed_none, listed_past, listed_more, listed_all}
use Rattle.forest.proofs.listing.list_below.Goals as goal
use Rattle.forest.proofs.listing.list_below.Goals.{then-is_link, else-is_link}

pub loop-link-init : goal.loop-link-init
loop-link-init c = (omega arith, listed_none (layout_graph c.args.layout.now))

pub offset_bounds-room-count : goal.offset_bounds-room-count
offset_bounds-room-count c = omega (arith, few_functions c.args.layout.now, c.loop-link.invariant.0, c.loop-link-test.true, c.requires)

pub bounds-room-count : goal.bounds-room-count
bounds-room-count c =
    let long : length c.loop-link.room ≡ 256 = search rules in
    omega (arith, long, few_functions c.args.layout.now, c.loop-link.invariant.0, c.loop-link-test.true, c.requires)

pub overflow_add-count : goal.overflow_add-count
overflow_add-count c = omega (arith, few_functions c.args.layout.now, c.loop-link.invariant.0, c.loop-link-test.true, c.requires)

pub loop-link-preserved : goal.loop-link-preserved
loop-link-preserved c =
    let G = layout_graph c.args.layout.now in
    let inv = c.loop-link.invariant in
    let room = c.loop-link.room in
    let count = c.loop-link.count in
    let link = c.loop-link.link in
    elim c.if-is_link.branch [
      | then-is_link w ↦
          let long : length room ≡ 256 = search rules in
          let low : count < length room = omega (arith, long, few_functions c.args.layout.now, inv.0, c.loop-link-test.true, c.requires) in
          let more = listed_more G (take count room) link inv.1 (sym c.is_link.ensures ∙ w.if-is_link.true) in
          (omega (arith, inv.0, w.count-is), rw w.count-is (rw w.room-is (rw (take_more_set room count link low) more)))
      | else-is_link w ↦
          (omega (arith, inv.0, w.count-is), rw w.count-is (rw w.room-is (listed_past G (take count room) link inv.1 (sym c.is_link.ensures ∙ w.if-is_link.false))))
    ]

pub returns-clause-few : goal.returns-clause-few
returns-clause-few c = let few = few_functions c.args.layout.now in omega (arith, few, c.loop-link.invariant.0, c.requires, c.loop-link.auto.link-end)

pub returns-clause-listed : goal.returns-clause-listed
returns-clause-listed c =
    let l = c.args.layout.now in
    let xs = take c.loop-link.count c.loop-link.room in
    let end : c.loop-link.link ≡ (layout_graph l).links = omega (arith, c.loop-link-test.false, c.loop-link.auto.link-end, c.requires) in
    listed_all (layout_graph l) xs (subst (λ (n : ℕ). ListedBelow (layout_graph l) xs n) end c.loop-link.invariant.1)
