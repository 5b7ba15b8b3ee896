use Rattle.theory.specs.Kept.{kept_at}
use Rattle.hanging.proofs.Parts.{PartsHung}
use Rattle.hanging.proofs.hung.hanging.hung_parts.Given as goal

abbrev pub invariant-loop-v : goal.invariant-loop-v
invariant-loop-v l = PartsHung l.layout (kept_at l.kept.words) l.hung l.v
