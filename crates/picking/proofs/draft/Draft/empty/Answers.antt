use Rattle.picking.proofs.OrderSteps.{small_zeros}
use Rattle.picking.proofs.draft.Draft.empty.Goals as goal

pub invariant_of-result : goal.invariant_of-result
invariant_of-result c = record { small = small_zeros }
