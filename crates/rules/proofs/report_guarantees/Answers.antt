use Rattle.rules.proofs.Guarantees.{report_guaranteed, lightest_guaranteed, straight_highest}
use Rattle.rules.proofs.report_guarantees.Goals as goal

pub returns : goal.returns
returns g c = record { guarantees = report_guaranteed; lightest = lightest_guaranteed; highest = straight_highest }
