use Rattle.sittings.proofs.Sets.{without_word}
use Rattle.sittings.proofs.command.entry.Goals as goal

pub returns-in_err-word : goal.returns-in_err-word
returns-in_err-word c = rw c.from_residual-in_err-word.ensures (without_word _ _ _ c.in_err-word.ensures)
