use Rattle.std.proofs.Common.{◌≡◌}
use Rattle.theory.specs.Refusals.{NoneFits}
use Rattle.layout.specs.View.{domains_of, scopes_of}
use Rattle.file.specs.Tests.{each, scope_tests_at, scopes_told}
use Rattle.file.proofs.scopes.read_scopes.Given as goal

abbrev pub invariant-loop-f : goal.invariant-loop-f
invariant-loop-f l =
    NoneFits (each l.f (scope_tests_at (domains_of l.initial.layout) l.section))
    × (domains_of l.layout ≡ domains_of l.initial.layout)
    × (scopes_of l.layout ≡ scopes_told l.section l.f)
