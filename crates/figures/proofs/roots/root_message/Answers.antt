use Rattle.std.proofs.Common.{sym, ◌∙◌}
use Rattle.theory.specs.Problem.{size}
use Rattle.figures.proofs.roots.root_message.Goals as goal

pub returns-then-is_root : goal.returns-then-is_root
unfolding size
returns-then-is_root g c = (sym c.is_root.ensures ∙ c.if-is_root.true, c.highest_message.ensures)
