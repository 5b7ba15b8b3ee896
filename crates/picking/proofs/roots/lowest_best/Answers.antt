use Rattle.std.proofs.Common.{arith}
use Rattle.picking.proofs.Lowest.{row_length, lowest_in_row}
use Rattle.picking.proofs.roots.lowest_best.Goals as goal

pub lowest_highest-requires : goal.lowest_highest-requires
lowest_highest-requires g c =
    let board = c.args.values.now in
    let long = row_length board.cells.now c.part-message.result.now c.args.variable c.args.size c.part-message.ensures c.requires.small (omega (arith, board.whole, c.requires.row)) in
    omega (arith, c.requires.some)

pub returns : goal.returns
returns g c =
    let board = c.args.values.now in
    lowest_in_row board.cells.now c.part-message.result.now c.args.variable c.args.size c.part-message.ensures c.requires.small
    g.V.Scale.rules g.V.Scale.means c.lowest_highest.result (omega (arith, board.whole, c.requires.row)) c.lowest_highest.ensures
