use Rattle.std.proofs.Common.{refl}
use Rattle.messages.proofs.WholeTable.{whole_table}
use Rattle.messages.proofs.functions.send_table.Goals as goal

pub returns-then-all_kept-clause-sent : goal.returns-then-all_kept-clause-sent
returns-then-all_kept-clause-sent g c =
    let v = g.V.Scale in
    let table = c.args.table.now in
    (table, refl, whole_table c.args.places.now (c.all_kept.ensures c.if-all_kept.true) v.rules g.met.V.Scale.laws table c.requires.table, c.send_entries.ensures.sent)
