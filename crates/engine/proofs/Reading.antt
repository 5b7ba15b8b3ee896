-- A problem that was read is a start. Assumes nothing.
use Rattle.std.proofs.Common.{◌≡◌, ℕ, List, None, Ok, Err, Result}
use Rattle.scale.specs.Rules.{Rules}
use Rattle.theory.specs.Refusals.{Answered}
use Rattle.tables.proofs.Ordered.{within_sizes}
use Rattle.calls.specs.Step.{Begins}
use Rattle.file.specs.declared.fault.FileFault.{FileFault}
use Rattle.file.specs.Numbers.{refusal}
use Rattle.file.specs.Reading.{ReadAs}
use Rattle.file.specs.Tests.{file_tests}
use Rattle.engine.specs.declared.problem.Problem.{Problem}
use Rattle.engine.specs.View.{state_of}
use Rattle.engine.proofs.Words.{each_entry}

pub begun : {V E T : Type 0} (R : Rules E) (means : V → E) (p : Problem V) (bytes : List ℕ) (r : Result T FileFault) →
    Answered refusal (file_tests R bytes) (λ _. ReadAs R bytes (state_of means p).problem × ((state_of means p).report ≡ None)) r →
    Answered refusal (file_tests R bytes) (λ _. ReadAs R bytes (state_of means p).problem × Begins R (state_of means p)) r
begun R means p bytes (Ok x) (none, (read, bare)) = (none, (read, record { fits = within_sizes p.tables; entries = each_entry R (state_of means p).problem read.entries; unreported = bare }))
begun R means p bytes (Err f) first = first
