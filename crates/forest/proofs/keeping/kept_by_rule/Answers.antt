use Rattle.theory.proofs.Orders.{before_order}
use Rattle.forest.proofs.Sorted.{kept_by_order}
use Rattle.forest.proofs.keeping.kept_by_rule.Goals as goal

pub returns : goal.returns
returns g c = λ R laws G w order complete sorted K kept. kept_by_order G (before_order laws w) order complete sorted K kept
