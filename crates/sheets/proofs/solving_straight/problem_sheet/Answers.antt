use Rattle.sheets.proofs.Showing.{shown}
use Rattle.sheets.proofs.solving_straight.problem_sheet.Goals as goal

pub returns : goal.returns
returns g c = (c.in_ok-solve.ensures.0, shown c.in_ok-solve.ensures.1 c.told.ensures)
