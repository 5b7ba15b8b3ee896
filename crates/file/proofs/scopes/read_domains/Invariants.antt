use Rattle.std.proofs.Common.{◌≡◌, [], take}
use Rattle.theory.specs.Refusals.{NoneFits}
use Rattle.layout.specs.View.{domains_of, scopes_of}
use Rattle.file.specs.Tests.{each, domain_tests}
use Rattle.file.proofs.scopes.read_domains.Given as goal

abbrev pub invariant-loop-v : goal.invariant-loop-v
invariant-loop-v l = NoneFits (each l.v (domain_tests l.section)) × (domains_of l.layout ≡ take l.v l.section) × (scopes_of l.layout ≡ [])
