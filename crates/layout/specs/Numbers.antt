-- The number of each refusal of a problem, which keeps the numbers of its scale. Assumes nothing.
use Rattle.std.specs.Prelude.{ℕ}
use Rattle.scale.specs.Numbers.{scale_number}
use Rattle.layout.specs.declared.fault.ProblemFault.{ProblemFault}
use Rattle.layout.specs.declared.fault.ProblemFault.TheVariants.{StoreLength, DomainSize, ManyVariables, ScopeSize, UnknownVariable, RepeatedVariable, ManyFunctions, TableSize, NoFunction, NoIndex, NoVariables, HasCycle, NoReport, ListLength, NoValue, NoPlace, Scale}

abbrev pub problem_number : ProblemFault → ℕ
problem_number StoreLength = 1
problem_number DomainSize = 2
problem_number ManyVariables = 3
problem_number ScopeSize = 4
problem_number UnknownVariable = 5
problem_number RepeatedVariable = 6
problem_number ManyFunctions = 7
problem_number TableSize = 8
problem_number NoFunction = 9
problem_number NoIndex = 10
problem_number NoVariables = 12
problem_number HasCycle = 13
problem_number NoReport = 14
problem_number ListLength = 15
problem_number NoValue = 16
problem_number NoPlace = 17
problem_number (Scale f) = scale_number f
