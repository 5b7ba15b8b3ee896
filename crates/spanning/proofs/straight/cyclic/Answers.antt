use Rattle.std.proofs.Common.{Decides, sym, subst}
use Rattle.theory.specs.Graphs.{Graph, Cycle, every}
use Rattle.spanning.proofs.OfTables.{one_graph}
use Rattle.spanning.proofs.straight.cyclic.Goals as goal

pub returns : goal.returns
returns c = subst (λ (G : Graph). Decides c.has_cycle.result (Cycle G every)) (sym (one_graph c.args.tables.now)) c.has_cycle.ensures
