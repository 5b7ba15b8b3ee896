-- No refusal has the number 0. Assumes nothing.
use Rattle.std.proofs.Common.{◌≤◌, lit≤}
use Rattle.scale.specs.Numbers.{scale_number}
use Rattle.scale.specs.declared.fault.ScaleFault.{ScaleFault}
use Rattle.scale.specs.declared.fault.ScaleFault.TheVariants.{NoEntry}
use Rattle.layout.specs.Numbers.{problem_number}
use Rattle.layout.specs.declared.fault.ProblemFault.{ProblemFault}
use Rattle.layout.specs.declared.fault.ProblemFault.TheVariants.{StoreLength, DomainSize, ManyVariables, ScopeSize, UnknownVariable, RepeatedVariable, ManyFunctions, TableSize, NoFunction, NoIndex, NoVariables, HasCycle, NoReport, ListLength, NoValue, NoPlace, Scale}
use Rattle.file.specs.declared.fault.FileCause.{FileCause}
use Rattle.file.specs.declared.fault.FileCause.TheVariants.{Short, OtherScale, TooMany, Misplaced, UnusedPlace, EntryCount, SmallBuffer, Problem}
use Rattle.file.specs.Numbers.{cause_number}

scale_above : (f : ScaleFault) → 1 ≤ scale_number f
scale_above NoEntry = lit≤ tt

pub problem_above : (f : ProblemFault) → 1 ≤ problem_number f
problem_above StoreLength = lit≤ tt
problem_above DomainSize = lit≤ tt
problem_above ManyVariables = lit≤ tt
problem_above ScopeSize = lit≤ tt
problem_above UnknownVariable = lit≤ tt
problem_above RepeatedVariable = lit≤ tt
problem_above ManyFunctions = lit≤ tt
problem_above TableSize = lit≤ tt
problem_above NoFunction = lit≤ tt
problem_above NoIndex = lit≤ tt
problem_above NoVariables = lit≤ tt
problem_above HasCycle = lit≤ tt
problem_above NoReport = lit≤ tt
problem_above ListLength = lit≤ tt
problem_above NoValue = lit≤ tt
problem_above NoPlace = lit≤ tt
problem_above (Scale f) = scale_above f

pub cause_above : (f : FileCause) → 1 ≤ cause_number f
cause_above Short = lit≤ tt
cause_above OtherScale = lit≤ tt
cause_above TooMany = lit≤ tt
cause_above Misplaced = lit≤ tt
cause_above UnusedPlace = lit≤ tt
cause_above EntryCount = lit≤ tt
cause_above SmallBuffer = lit≤ tt
cause_above (Problem f) = problem_above f
