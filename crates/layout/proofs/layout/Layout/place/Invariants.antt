use Rattle.std.proofs.Common.{◌≡◌, ◌*◌, ◌^◌, ◌≤◌, take}
use Rattle.theory.specs.Problem.{index}
use Rattle.layout.specs.Scopes.{sizes_of, values_of}
use Rattle.layout.proofs.layout.Layout.place.Given as goal

abbrev pub invariant-loop-variable : goal.invariant-loop-variable
invariant-loop-variable l =
    (l.place ≡ index (sizes_of (l.domains) (take l.variable-index l.scope)) (values_of l.plan (take l.variable-index l.scope)))
    × (l.place ≤ 255 * 17 ^ l.variable-index)
