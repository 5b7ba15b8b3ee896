use Rattle.theory.specs.Kept.{kept_at}
use Rattle.hanging.proofs.Collecting.{Collected}
use Rattle.hanging.proofs.around.functions_around.Given as goal

abbrev pub invariant-loop-link : goal.invariant-loop-link
invariant-loop-link l = Collected l.layout (kept_at l.kept.words) l.around l.link
