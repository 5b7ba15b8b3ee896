use Rattle.std.proofs.Common.{◌≤◌}
use Rattle.theory.specs.Refusals.{NoneFits}
use Rattle.file.specs.Tests.{file_tests}
use Rattle.ffi.proofs.reading.read_again.Given as goal

abbrev pub invariant-loop : goal.invariant-loop
invariant-loop g l = 1 ≤ l.counter → NoneFits (file_tests g.V.Scale.rules l.bytes)
