-- What is proved of files and the problems that they spell. Assumes nothing.
use Rattle.std.proofs.Common.{◌≡◌, ℕ, List}
use Rattle.scale.specs.Rules.{Rules}
use Rattle.theory.specs.Problem.{Problem}
use Rattle.theory.specs.Refusals.{NoneFits}
use Rattle.theory.specs.Sizes.{Fits}
use Rattle.file.specs.Spelling.{Spells, Agree, AllEntries}
use Rattle.file.specs.Tests.{file_tests}

-- A problem is spelled by one file.
abbrev pub OneSpelling : Type 0
OneSpelling = (code : ℕ) (P : Problem) (bs cs : List ℕ) → Spells code bs P → Spells code cs P → bs ≡ cs

-- A file spells one problem.
abbrev pub OneProblem : Type 0
OneProblem = (code : ℕ) (bs : List ℕ) (P Q : Problem) → Spells code bs P → Spells code bs Q → Agree P Q

-- A file that spells a problem of entries meets no test.
abbrev pub SpelledAccepted : {E : Type 0} → Rules E → Type 0
SpelledAccepted R = (P : Problem) (bs : List ℕ) → Fits P → AllEntries R P → Spells R.code bs P → NoneFits (file_tests R bs)
