use Rattle.std.proofs.Common.{ℕ, ◌≤◌}
use Rattle.joining.specs.Counts.{counts}
use Rattle.joining.specs.Standing.{StandsFor}
use Rattle.messages.specs.Places.{count_in}
use Rattle.messages.specs.Upward.{upward, BelowHeld}
use Rattle.messages.proofs.upward.from_below.Given as goal

abbrev pub invariant-loop-p : goal.invariant-loop-p
invariant-loop-p g l =
    let v = g.V.Scale in
    (q : ℕ → ℕ → v.Exact) (n : ℕ → ℕ → ℕ) → BelowHeld v.rules v.means v.within l.places l.values.cells.now q n → upward counts l.places n l.combination (count_in l.places) ≤ 1024 →
    StandsFor v.means v.within (upward v.rules l.places q l.combination l.p) (upward counts l.places n l.combination l.p) l.sum
