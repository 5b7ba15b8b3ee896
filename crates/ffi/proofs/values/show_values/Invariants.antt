use Rattle.std.proofs.Common.{get_or, map}
use Rattle.ffi.proofs.Cells.{ShownBelow}
use Rattle.ffi.proofs.values.show_values.Given as goal

abbrev pub invariant-loop-n : goal.invariant-loop-n
invariant-loop-n g l = ShownBelow (λ k. g.V.Scale.rules.shown (get_or (map g.V.Scale.means l.values) k g.V.Scale.rules.neutral)) l.n l.shown
