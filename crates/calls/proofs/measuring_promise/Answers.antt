use Rattle.calls.proofs.Promised.{measuring_promised}
use Rattle.calls.proofs.measuring_promise.Goals as goal

pub returns : goal.returns
returns g c = measuring_promised g.V.Scale.rules g.met.V.Scale.laws g.met.V.Measuring.gaps
