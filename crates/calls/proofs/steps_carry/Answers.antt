use Rattle.calls.proofs.Promised.{carried, plain_promised}
use Rattle.calls.proofs.steps_carry.Goals as goal

pub returns : goal.returns
returns g c =
    let R = g.V.Scale.rules in
    let L = g.met.V.Scale.laws in
    record { carry = carried R L; promise = plain_promised R L }
