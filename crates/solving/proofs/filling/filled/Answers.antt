use Rattle.std.proofs.Common.{◌+◌, sym, subst, arith}
use Rattle.theory.specs.Kept.{kept_at}
use Rattle.tables.specs.View.{problem_of}
use Rattle.tables.proofs.Ordered.{within_sizes}
use Rattle.hanging.specs.Forest.{hanging_of}
use Rattle.messages.specs.Sending.{message_cells}
use Rattle.solving.proofs.Filled.{Passed, Told, low_cells, few_entries, solved}
use Rattle.solving.proofs.filling.filled.Goals as goal

pub told-requires-clause-few : goal.told-requires-clause-few
told-requires-clause-few g c = λ n d h.
    let P = problem_of c.args.tables.now in
    let forest = c.args.forest.now in
    let H = hanging_of forest.hung in
    let apart : message_cells P H (2048 + n) → ⊥ = λ own. omega (arith, low_cells P (within_sizes c.args.tables.now) (kept_at forest.kept.words) H c.requires.hung.well (2048 + n) own) in
    subst (g.V.Scale.within 2) (sym (c.send_messages.ensures.values (2048 + n) d apart)) (c.requires.blank.weights n d h)

pub returns : goal.returns
returns g c =
    let s = g.V.Scale in
    let met = g.met.V.Scale in
    let t = c.args.tables.now in
    let P = problem_of t in
    let links = c.args.forest.now.kept in
    let r = c.args.forest.now.hung in
    let sent = c.send_messages.ensures in
    let told = c.told.ensures in
    let passed : Passed s.rules s.means s.within P (kept_at links.words) (hanging_of r) c.args.values.now.cells.now c.send_messages.new.values.cells.now c.args.choices.now.cells.now c.send_messages.new.choices.cells.now =
    record { sends = sent.sent; only = sent.values; only' = sent.choices; long = sent.same.0.long; long' = sent.same.1.long } in
    let says : Told s.rules s.means s.within P links (hanging_of r) c.send_messages.new.values.cells.now c.send_messages.new.choices.cells.now c.told.result =
    record { long = told.long; past = told.past; chosen = told.chosen; kept = told.kept; counted = told.counted; tree = told.tree; score = told.score; removed = told.removed; ceiling = told.ceiling; share = told.share; few = told.few } in
    record {
      solved = solved s.rules met.laws s.means s.within met.ties P (within_sizes t) links r c.requires.hung c.requires.blank passed says;
      within = few_entries s.rules met.laws s.means s.within met.ties P (within_sizes t) links r c.requires.hung c.requires.blank passed says;
      same = sent.same;
    }
