-- Writes one after another. Assumes nothing.
use Rattle.std.proofs.Common.{refl, ◌∙◌}
use Rattle.board.specs.declared.Board.{Board}
use Rattle.board.specs.SameLent.{SameLent}

pub same_self : {T : Type 0} (a : Board T) → SameLent a a
same_self a = record { rows = refl; long = refl; lent = refl }

pub same_both : {T : Type 0} {a b c : Board T} → SameLent a b → SameLent b c → SameLent a c
same_both first then = record { rows = then.rows ∙ first.rows; long = then.long ∙ first.long; lent = then.lent ∙ first.lent }
