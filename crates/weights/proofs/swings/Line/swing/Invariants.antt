use Rattle.std.proofs.Common.{◌≡◌}
use Rattle.weights.specs.Swings.{along}
use Rattle.weights.proofs.Running.{Leads}
use Rattle.weights.proofs.swings.Line.swing.Given as goal

abbrev pub invariant-loop-x : goal.invariant-loop-x
invariant-loop-x g l =
    let v = g.V.Scale in
    let entry = along v.rules l.self.table.now l.self.stride l.from in
    Leads v.rules.leq v.means (v.within 1) (λ x e. entry x ≡ e) l.x l.high × Leads (λ a b. v.rules.leq b a) v.means (v.within 1) (λ x e. entry x ≡ e) l.x l.low
