use Rattle.std.proofs.Common.{◌≡◌, ◌+◌, ◌*◌}
use Rattle.tables.specs.View.{problem_of}
use Rattle.weights.specs.Swings.{stride_at}
use Rattle.weights.proofs.Strides.{from_place}
use Rattle.weights.proofs.link.Link.stride.Given as goal

abbrev pub invariant-loop-variable : goal.invariant-loop-variable
invariant-loop-variable l =
    let P = problem_of l.self.tables.now in
    l.stride * from_place P l.self.function (l.self.place + 1 + l.variable-index) ≡ stride_at P l.self.function l.self.place
