use Rattle.std.proofs.Common.{ℕ, ◌<◌, sym, refl, subst, arith}
use Rattle.board.proofs.SameLent.{same_self}
use Rattle.theory.specs.Problem.{variables}
use Rattle.tables.proofs.Ordered.{within_sizes}
use Rattle.hanging.specs.declared.node.Node.{Node}
use Rattle.hanging.specs.Forest.{Known}
use Rattle.messages.specs.Holding.{Holds}
use Rattle.messages.specs.Rooted.{problem_in, kept_in, hanging_in}
use Rattle.messages.specs.Sending.{SendsNode, node_cells}
use Rattle.messages.specs.Upward.{OnlyAt}
use Rattle.messages.proofs.sending.send_node.Goals as goal

pub send_variable-requires : goal.send_variable-requires
send_variable-requires g c =
    let v = g.V.Scale in
    let forest = c.args.forest.now in
    let P = problem_in forest in
    let H = hanging_in forest in
    let fits = within_sizes forest.tables.now in
    let u = c.in-Variable.v in
    let known : u < variables P = subst (Known P) c.in-Variable.is c.requires.known in
    record {
      variable = known;
      rooted = c.requires.rooted;
      parents = c.requires.parents;
      values = c.requires.values;
      neutral = λ k (x, low, e).
          let cell = subst (λ b. (k : ℕ) → k < 1024 → node_cells P H b k → Holds v.means v.within c.args.values.now.cells.now k v.rules.neutral 0) c.in-Variable.is c.requires.neutral in
          cell k (omega (arith, fits.small_domains u known, fits.few_variables)) (x, low, e);
    }

pub returns-in-Variable : goal.returns-in-Variable
returns-in-Variable g c =
    let v = g.V.Scale in
    let forest = c.args.forest.now in
    let P = problem_in forest in
    let H = hanging_in forest in
    let kept = kept_in forest in
    let told = c.send_variable.ensures in
    let back = sym c.in-Variable.is in
    record {
      sent = subst (λ (b : Node). SendsNode v.rules v.means v.within P kept H b c.args.values.now.cells.now c.send_variable.new.values.cells.now c.args.choices.now.cells.now) back told.sent;
      values = subst (λ (b : Node). OnlyAt (node_cells P H b) c.args.values.now.cells.now c.send_variable.new.values.cells.now) back told.values;
      choices = λ k d apart. refl;
      same = (told.same, same_self c.args.choices.now);
    }
