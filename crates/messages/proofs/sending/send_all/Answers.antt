use Rattle.std.proofs.Common.{◌≡◌, ℕ, ◌+◌, ◌-◌, ◌<◌, List, length, get_or, reverse, sym, refl, ap, ◌∙◌, subst, inl, inr, arith}
use Rattle.std.specs.declared.iter.Rev.{Rev}
use Rattle.std.specs.declared.slice.Iter.{Iter}
use Rattle.std.specs.Slice.Iter.{iter_rest}
use Rattle.std.specs.Iterator.Adapters.{rev_source}
use Rattle.std.proofs.lemmas.Bool.{cases_eq}
use Rattle.std.proofs.lemmas.Iterator.Adapters.{YieldsList-from_rev_slice}
use Rattle.std.proofs.lemmas.Iterator.Consumers.{YieldsList-turn, YieldsList-end}
use Rattle.std.proofs.lemmas.List.{get_or-reverse, get_or_default, length-reverse, length_push}
use Rattle.board.proofs.SameLent.{same_both}
use Rattle.theory.specs.Cut.{IsCut}
use Rattle.theory.specs.Forest.{Hanging, above}
use Rattle.theory.specs.Messages.{Messages}
use Rattle.theory.specs.Problem.{Problem, Plan, variables, functions}
use Rattle.tables.proofs.Ordered.{within_sizes}
use Rattle.hanging.specs.declared.node.Node.{Node}
use Rattle.hanging.specs.declared.node.Node.TheVariants as node
use Rattle.hanging.specs.Forest.{Known}
use Rattle.hanging.specs.declared.hung.Hung.{Hung}
use Rattle.hanging.specs.Hung.{no_node, order_of, count_of, node_at}
use Rattle.joining.specs.Counts.{counts}
use Rattle.messages.specs.Counts.{one_entry}
use Rattle.joining.specs.Standing.{StandsFor}
use Rattle.messages.specs.Rooted.{problem_in, kept_in, hanging_in}
use Rattle.messages.specs.Sending.{SendsNode, node_cells, node_choices, message_cells, any_choice_cells}
use Rattle.messages.specs.Upward.{OnlyAt}
use Rattle.messages.proofs.Passing.{NodeSent, cells_apart, choices_apart, sent_on, sent_here}
use Rattle.messages.proofs.sending.send_all.Goals as goal

-- the loop goes backward along these nodes
source_rest : {s u : Rev (Iter Node)} {front : Iter Node} {nodes order : List Node} → s ≡ u → rev_source u ≡ front → iter_rest front ≡ nodes → nodes ≡ order → iter_rest (rev_source s) ≡ order
source_rest backward source rest all = ap (λ s. iter_rest (rev_source s)) backward ∙ ap iter_rest source ∙ rest ∙ all

-- In a turn of the loop after so many, b stands at that position from the end.
record Turn (r : Hung) (turns : ℕ) (b : Node) : Type 0 where
  position : ℕ
  at : position + turns + 1 ≡ count_of r
  is : b ≡ node_at r position

turn : (r : Hung) (turns : ℕ) (b : Node) → (turns < length (reverse (order_of r))) × (b ≡ get_or (reverse (order_of r)) turns b) → Turn r turns b
turn r turns b (low, is) =
    let long = length-reverse (order_of r) in
    record {
      position = count_of r - 1 - turns;
      at = omega arith;
      is = is ∙ get_or_default (reverse (order_of r)) turns b no_node low ∙ get_or-reverse (order_of r) turns no_node (omega arith);
    }

pub send_node-requires : goal.send_node-requires
send_node-requires g c =
    let v = g.V.Scale in
    let forest = c.args.forest.now in
    let P = problem_in forest in
    let r = forest.hung.now in
    let H = hanging_in forest in
    let fits = within_sizes forest.tables.now in
    let order = c.requires.rooted.order in
    let inv = c.loop-node.invariant in
    let source = YieldsList-from_rev_slice (order_of r) (source_rest c.into_iter-node-iterator.ensures.into_iter_gives c.rev-node-items.ensures.source c.iter.ensures.rest c.order.ensures) in
    let k = length c.loop-node.yielded in
    let t = turn r k c.in-Some.node.now (YieldsList-turn source c.loop-node.yielded _ c.loop-node.yielded_by _ _ c.in-Some.node c.in-Some.is c.next.ensures.steps) in
    let q = t.position in
    let b = node_at r q in
    let below : q < count_of r = omega (arith, t.at) in
    let is = t.is in
    let up : (f : ℕ) → f < functions P → above P H f < variables P = λ f h. fits.sound.known f (H.fun_parent f) h (c.requires.rooted.well.fun_place f h) in
    record {
      known = subst (Known P) (sym is) (order.only q below);
      rooted = c.requires.rooted;
      parents = c.parents-parents.ensures;
      values = omega (arith, inv.3.rows, c.requires.values);
      choices = omega (arith, inv.4.rows, c.requires.choices);
      neutral = λ k low here d.
          let own : node_cells P H b k = subst (λ (a : Node). node_cells P H a k) is here in
          let unmoved = inv.1 k d (λ (i, least, known, there).
          cells_apart P fits H up b (node_at r i) k (order.only q below) (order.only i known) (λ e. order.once q i (omega (arith, t.at)) known e) own there) in
          subst (StandsFor v.means v.within v.rules.neutral 0) (sym unmoved) (c.requires.neutral k low d);
    }

pub loop-node-preserved : goal.loop-node-preserved
loop-node-preserved g c =
    let v = g.V.Scale in
    let forest = c.args.forest.now in
    let P = problem_in forest in
    let r = forest.hung.now in
    let H = hanging_in forest in
    let kept = kept_in forest in
    let fits = within_sizes forest.tables.now in
    let order = c.requires.rooted.order in
    let inv = c.loop-node.invariant in
    let told = c.send_node.ensures in
    let source = YieldsList-from_rev_slice (order_of r) (source_rest c.into_iter-node-iterator.ensures.into_iter_gives c.rev-node-items.ensures.source c.iter.ensures.rest c.order.ensures) in
    let k = length c.loop-node.yielded in
    let t = turn r k c.in-Some.node.now (YieldsList-turn source c.loop-node.yielded _ c.loop-node.yielded_by _ _ c.in-Some.node c.in-Some.is c.next.ensures.steps) in
    let q = t.position in
    let b = node_at r q in
    let at = t.at in
    let more = length_push c.loop-node.yielded c.in-Some.node in
    let below : q < count_of r = omega arith in
    let is = t.is in
    let cells = c.loop-node.values.cells.now in
    let cells' = c.send_node.new.values.cells.now in
    let choices = c.loop-node.choices.cells.now in
    let choices' = c.send_node.new.choices.cells.now in
    let up : (f : ℕ) → f < functions P → above P H f < variables P = λ f h. fits.sound.known f (H.fun_parent f) h (c.requires.rooted.well.fun_place f h) in
    let only = subst (λ (a : Node). OnlyAt (node_cells P H a) cells cells') is told.values in
    let only' = subst (λ (a : Node). OnlyAt (node_choices P H a) choices choices') is told.choices in
    let sends = subst (λ (a : Node). SendsNode v.rules v.means v.within P kept H a cells cells' choices') is told.sent in (
      λ cut is_cut m n i least known.
          elim (cases_eq i q) [
            | inl e ↦ subst (λ (j : ℕ). NodeSent v.rules v.means v.within P kept H cut m n cells' choices' (node_at r j)) (sym e)
                (sent_here P r order v.rules v.means v.within kept cells cells' choices choices' b q below refl (order.only q below) sends cut is_cut m n
                (λ j l k. inv.0 cut is_cut m n j (omega arith) k))
            | inr d ↦
                let apart : b ≡ node_at r i → ⊥ = λ e. order.once q i (omega arith) known e in
                sent_on v.rules v.means v.within P kept H cut m n (node_at r i) cells cells' choices choices'
                (λ k o there. only k o (λ own. cells_apart P fits H up b (node_at r i) k (order.only q below) (order.only i known) apart own there))
                (λ k there. only' k 0 (λ own. choices_apart P fits H up b (node_at r i) k (order.only q below) (order.only i known) apart own there))
                (inv.0 cut is_cut m n i (omega arith) known)
          ],
      λ k d apart. only k d (λ own. apart (q, omega arith, below, own)) ∙ inv.1 k d (λ (i, least, known, there). apart (i, omega arith, known, there)),
      λ k d apart. only' k d (λ own. apart (q, omega arith, below, own)) ∙ inv.2 k d (λ (i, least, known, there). apart (i, omega arith, known, there)),
      same_both inv.3 told.same.0,
      same_both inv.4 told.same.1,
    )

-- a cell of a node is one of the cells of messages
to_messages : (P : Problem) (H : Hanging) (b : Node) (k : ℕ) → Known P b → node_cells P H b k → message_cells P H k
to_messages P H (node.Variable v) k known there = inl (v, known, there)
to_messages P H (node.Function f) k known there = inr (f, known, there)

to_choices : (P : Problem) (H : Hanging) (b : Node) (k : ℕ) → Known P b → node_choices P H b k → any_choice_cells P H k
to_choices P H (node.Variable v) k known there = absurd there
to_choices P H (node.Function f) k known there = (f, known, there)

pub returns : goal.returns
returns g c =
    let v = g.V.Scale in
    let forest = c.args.forest.now in
    let P = problem_in forest in
    let r = forest.hung.now in
    let H = hanging_in forest in
    let kept = kept_in forest in
    let order = c.requires.rooted.order in
    let inv = c.loop-node.invariant in
    let source = YieldsList-from_rev_slice (order_of r) (source_rest c.into_iter-node-iterator.ensures.into_iter_gives c.rev-node-items.ensures.source c.iter.ensures.rest c.order.ensures) in
    let end = YieldsList-end source c.loop-node.yielded _ c.loop-node.yielded_by _ _ c.in-None.is c.next.ensures.steps in
    let sent-at : (cut : ℕ → Plan → v.Exact) → IsCut v.rules P kept cut → (m : Messages v.rules P H cut) (n : Messages counts P H one_entry) → (b : Node) → Known P b →
    NodeSent v.rules v.means v.within P kept H cut m n c.loop-node.values.cells.now c.loop-node.choices.cells.now b = λ cut is_cut m n b known.
    let (i, stands) = order.each b known in
    subst (NodeSent v.rules v.means v.within P kept H cut m n c.loop-node.values.cells.now c.loop-node.choices.cells.now) stands.here
    (inv.0 cut is_cut m n i (omega (arith, end.1, length-reverse (order_of r))) stands.within) in
    record {
      sent = λ cut is_cut m n. record {
        variables = λ u h. sent-at cut is_cut m n (node.Variable u) h;
        functions = λ f h. sent-at cut is_cut m n (node.Function f) h;
      };
      values = λ k d apart. inv.1 k d (λ (i, least, known, there). apart (to_messages P H (node_at r i) k (order.only i known) there));
      choices = λ k d apart. inv.2 k d (λ (i, least, known, there). apart (to_choices P H (node_at r i) k (order.only i known) there));
      same = (inv.3, inv.4);
    }
