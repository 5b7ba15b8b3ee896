use Rattle.theory.specs.Kept.{kept_at}
use Rattle.hanging.specs.Hung.{loose}
use Rattle.hanging.proofs.Turns.{Functions, Places}
use Rattle.hanging.proofs.hung.Hung.+hang_function_hang_variable.Given as goal

abbrev pub decreases-hang_function : goal.decreases-hang_function
decreases-hang_function l = loose l.self.now

abbrev pub decreases-hang_variable : goal.decreases-hang_variable
decreases-hang_variable l = loose l.self.now

abbrev pub invariant-hang_function-loop-p : goal.invariant-hang_function-loop-p
invariant-hang_function-loop-p l = Places l.layout (kept_at l.kept.words) l.f l.initial.self l.self l.p

abbrev pub invariant-hang_variable-loop-f : goal.invariant-hang_variable-loop-f
invariant-hang_variable-loop-f l = Functions l.layout (kept_at l.kept.words) l.v l.initial.self l.self l.left

abbrev pub decreases-hang_variable-loop-f : goal.decreases-hang_variable-loop-f
decreases-hang_variable-loop-f l = l.left.word
