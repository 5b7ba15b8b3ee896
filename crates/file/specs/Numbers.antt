-- The number of each refusal of a file, which keeps the numbers of the problem, and its place. Assumes nothing.
use Rattle.std.specs.Prelude.{ℕ, Ok, Err, Result}
use Rattle.layout.specs.Numbers.{problem_number}
use Rattle.layout.specs.declared.fault.ProblemFault.{ProblemFault}
use Rattle.file.specs.declared.fault.FileCause.{FileCause}
use Rattle.file.specs.declared.fault.FileCause.TheVariants.{Short, OtherScale, TooMany, Misplaced, UnusedPlace, EntryCount, SmallBuffer, Problem}
use Rattle.file.specs.declared.fault.FileFault.{FileFault}

abbrev pub cause_number : FileCause → ℕ
cause_number Short = 18
cause_number OtherScale = 19
cause_number TooMany = 20
cause_number Misplaced = 21
cause_number UnusedPlace = 22
cause_number EntryCount = 23
cause_number SmallBuffer = 24
cause_number (Problem f) = problem_number f

abbrev pub file_number : FileFault → ℕ
file_number f = cause_number f.cause

-- what a declined file is answered by: a number and a byte place
abbrev pub refusal : FileFault → ℕ × ℕ
refusal f = (file_number f, f.place)

-- a refusal of the problem, with its place
abbrev pub located : {T : Type 0} → Result T ProblemFault → ℕ → Result T FileFault
located (Ok x) k = Ok x
located (Err f) k = Err (record { cause = Problem f; place = k })
