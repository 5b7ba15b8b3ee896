use Rattle.std.proofs.Common.{◌≡◌, ℕ, ◌-◌, ◌*◌, ◌≤◌, length}
use Rattle.weights.specs.Swings.{SwingFrom, base}
use Rattle.weights.proofs.Running.{Leads}
use Rattle.weights.proofs.swings.Line.widest_swing.Given as goal

abbrev pub invariant-loop-from : goal.invariant-loop-from
invariant-loop-from g l =
    let v = g.V.Scale in
    let values = l.self.values in
    let stride = l.self.stride in
    (b : ℕ)
    × (l.from ≡ b * values * stride)
    × (l.from ≤ length l.self.table.now)
    × Leads v.rules.leq v.means (v.within 2) (λ k. SwingFrom v.rules l.self.table.now values stride (base values stride k)) (b * stride) l.widest

abbrev pub decreases-loop-from : goal.decreases-loop-from
decreases-loop-from g l = length l.self.table.now - l.from
