use Rattle.std.proofs.Common.{◌+◌, ◌≤◌, arith}
use Rattle.scale.specs.Levels.{capped, weakest}
use Rattle.scale.specs.Points.{points}
use Rattle.scale.specs.Ranks.{ranked}
use Rattle.inspection.proofs.Enough.{tells, enough}
use Rattle.inspection.proofs.limit.past.Goals as goal

pub returns : goal.returns
returns c =
    let n = c.args.longest + 1 in
    let more : 16785 ≤ n = omega arith in
    record { points = enough n more points; capped = enough n more capped; ranked = enough n more ranked; weakest = enough n more weakest; code = tells n more }
