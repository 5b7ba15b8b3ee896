use Rattle.calls.proofs.Promised.{plain_promised, measuring_promised, stays_within, report_of_tables}
use Rattle.calls.proofs.Within.{empty_begins}
use Rattle.calls.proofs.promises_stand.Goals as goal

pub returns : goal.returns
returns g c = record { promises = λ R L. (plain_promised R L, measuring_promised R L); empty = empty_begins; within = stays_within; stands = report_of_tables }
