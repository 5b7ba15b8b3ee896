use Rattle.theory.specs.KeptBy.{straight}
use Rattle.solving.proofs.straight.solve_on.Goals as goal

pub returns-clause-solved : goal.returns-clause-solved
returns-clause-solved g c =
    c.filled.ensures.solved straight (record { no_cycle = c.requires.clear; all_kept = c.requires.all; unweighed = c.clear_boards.ensures.unweighed })
