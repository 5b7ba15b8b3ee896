use Rattle.std.proofs.Common.{refl}
use Rattle.worked.proofs.Calling.{first_answers, calls_build, calls_withdraw}
use Rattle.worked.proofs.called.Goals as goal

pub returns : goal.returns
returns c = record { count = refl; first = first_answers; build = calls_build; withdraw = calls_withdraw }
