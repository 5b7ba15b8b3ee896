use Rattle.std.proofs.Common.{arith}
use Rattle.joining.proofs.Joining.{join_stands}
use Rattle.figures.proofs.ceilings.joined.Goals as goal

pub returns : goal.returns
returns g c = λ e d tree removed. join_stands g.V.Scale.rules g.V.Scale.means g.V.Scale.within tree removed (omega arith) c.join.ensures
