use Rattle.std.proofs.lemmas.Result.{err_from_is_err_and}
use Rattle.theory.specs.KeptBy.{straight}
use Rattle.theory.proofs.Refusing.{first_before}
use Rattle.file.specs.Tests.{file_tests}
use Rattle.engine.specs.View.{state_of}
use Rattle.sheets.specs.Shows.{plan_tests}
use Rattle.sheets.proofs.Files.{file_answered}
use Rattle.sheets.proofs.solving_straight.straight_sheet.Goals as goal

pub returns-in_err-problem : goal.returns-in_err-problem
returns-in_err-problem g c =
    let R = g.V.Scale.rules in
    let bytes = c.args.bytes.now in
    let e = err_from_is_err_and c.from_residual.result c.from_residual.ensures.1 in
    rw (e.1, e.2) (first_before (file_tests R bytes) (plan_tests R.code straight bytes) _ c.in_err-problem.ensures)

pub returns : goal.returns
returns g c =
    let s = g.V.Scale in
    let (none, read) = c.in_ok-problem.ensures in
    file_answered s.rules straight c.args.bytes.now (state_of s.means c.in_ok-problem.problem).problem c.problem_sheet.result none read c.problem_sheet.ensures
