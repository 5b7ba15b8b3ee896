use Rattle.std.proofs.Common.{◌+◌}
use Rattle.weights.specs.Swings.{SwingFrom}
use Rattle.weights.proofs.Running.{Leads}
use Rattle.weights.proofs.swings.Line.widest_of_block.Given as goal

abbrev pub invariant-loop-later : goal.invariant-loop-later
invariant-loop-later g l =
    let v = g.V.Scale in
    Leads v.rules.leq v.means (v.within 2) (λ k. SwingFrom v.rules l.self.table.now l.self.values l.self.stride (l.from + k)) l.later l.widest
