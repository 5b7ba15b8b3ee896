use Rattle.std.proofs.Common.{◌≡◌, ℕ, ◌+◌, ◌*◌, ◌<◌}
use Rattle.layout.specs.View.{scope_in}
use Rattle.file.specs.Bytes.{part}
use Rattle.file.specs.Spelling.{scope_bytes}
use Rattle.file.specs.Inner.{Written}
use Rattle.file.proofs.writing.put_scopes.Given as goal

abbrev pub invariant-loop-f : goal.invariant-loop-f
invariant-loop-f l =
    Written l.initial.out l.out l.place (l.place + 5 * l.f)
    × ((f : ℕ) → f < l.f → part l.out (l.place + 5 * f) 5 ≡ scope_bytes (scope_in l.layout f))
