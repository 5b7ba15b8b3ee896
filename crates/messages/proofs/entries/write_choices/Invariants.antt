use Rattle.std.proofs.Common.{◌*◌}
use Rattle.board.specs.SameLent.{SameLent}
use Rattle.messages.proofs.Writing.{WrittenTo}
use Rattle.messages.proofs.entries.write_choices.Given as goal

abbrev pub invariant-loop-x : goal.invariant-loop-x
invariant-loop-x l = WrittenTo l.best (16 * l.function) l.initial.choices.cells.now l.x l.choices.cells.now × SameLent l.initial.choices l.choices
