use Rattle.std.proofs.Common.{◌≡◌, take}
use Rattle.short_list.specs.View.{items_of}
use Rattle.layout.proofs.scope.Scope.of.Given as goal

abbrev pub invariant-loop-variable : goal.invariant-loop-variable
invariant-loop-variable l = items_of l.variables ≡ take l.variable-index l.list
