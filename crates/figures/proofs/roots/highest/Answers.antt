use Rattle.std.proofs.Common.{arith}
use Rattle.figures.proofs.Highest.{row_length, highest_in_row}
use Rattle.figures.proofs.roots.highest.Goals as goal

pub highest_in-requires : goal.highest_in-requires
highest_in-requires g c =
    let board = c.args.values.now in
    let long = row_length board.cells.now c.part-cells.result.now c.args.row c.args.size c.part-cells.ensures c.requires.few (omega (arith, board.whole, c.requires.row)) in
    omega (arith, c.requires.some)

pub returns : goal.returns
returns g c =
    let board = c.args.values.now in
    highest_in_row board.cells.now c.part-cells.result.now c.args.row c.args.size c.part-cells.ensures c.requires.few (omega (arith, board.whole, c.requires.row))
    g.V.Scale.rules g.V.Scale.means c.highest_in.result c.highest_in.ensures
