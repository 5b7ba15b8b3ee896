use Rattle.theory.specs.Refusals.{NoneFits}
use Rattle.file.specs.Tests.{each, entry_tests}
use Rattle.file.proofs.entries.test_words.Given as goal

abbrev pub invariant-loop-k : goal.invariant-loop-k
invariant-loop-k g l = NoneFits (each l.k (entry_tests g.V.Scale.rules l.place l.section))
