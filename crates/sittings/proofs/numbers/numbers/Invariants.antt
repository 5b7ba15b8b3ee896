use Rattle.std.proofs.Common.{take}
use Rattle.sittings.specs.Numbers as say
use Rattle.sittings.specs.Spoken.{texts}
use Rattle.sittings.proofs.numbers.numbers.Given as goal

abbrev pub invariant-loop-text : goal.invariant-loop-text
invariant-loop-text l = say.AreNumbers (texts (take l.text-index l.list)) l.numbers.items
