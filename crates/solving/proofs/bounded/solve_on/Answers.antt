use Rattle.theory.specs.KeptBy.{bounded}
use Rattle.solving.proofs.Blanks.{weighed_blank}
use Rattle.solving.proofs.bounded.solve_on.Goals as goal

pub filled-requires-clause-blank : goal.filled-requires-clause-blank
filled-requires-clause-blank g c =
    let s = g.V.Scale in
    weighed_blank s.rules s.means s.within _ _ _ c.clear_boards.ensures.blank c.bounded_forest-forest.ensures.others c.bounded_forest-forest.ensures.within

pub returns-clause-solved : goal.returns-clause-solved
returns-clause-solved g c = c.filled.ensures.solved bounded c.bounded_forest-forest.ensures.rule
