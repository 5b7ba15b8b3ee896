use Rattle.calls.proofs.OneStep.{one_step}
use Rattle.calls.proofs.SomeStep.{some_step}
use Rattle.calls.proofs.one_answer.Goals as goal

pub returns : goal.returns
returns g c = λ R L s fits call. (some_step R L s fits call, λ answer answer' t t' step step'. one_step R L s fits step step')
