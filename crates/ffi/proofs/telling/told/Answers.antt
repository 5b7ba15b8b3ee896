use Rattle.ffi.proofs.Above.{cause_above}
use Rattle.ffi.proofs.telling.told.Goals as goal

pub returns-clause-above : goal.returns-clause-above
returns-clause-above c = cause_above c.args.fault.cause
