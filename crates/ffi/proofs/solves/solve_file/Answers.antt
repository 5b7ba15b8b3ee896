use Rattle.std.proofs.Common.{length}
use Rattle.std.proofs.lemmas.Result.{err_from_is_err_and}
use Rattle.theory.proofs.Refusing.{first_before}
use Rattle.file.specs.Tests.{file_tests}
use Rattle.file.proofs.Testing.{answered_located}
use Rattle.engine.specs.View.{state_of}
use Rattle.ffi.specs.Reports.{store_tests}
use Rattle.ffi.proofs.Solving.{file_solved}
use Rattle.ffi.proofs.solves.solve_file.Goals as goal

pub returns-in_err-problem-clause-many : goal.returns-in_err-problem-clause-many
returns-in_err-problem-clause-many g c = λ some.
    let e = err_from_is_err_and c.from_residual.result c.from_residual.ensures.1 in
    rw (e.1, e.2) (first_before (file_tests g.V.Scale.rules c.args.bytes.now) _ _ c.in_err-problem.ensures)

pub returns-clause-many : goal.returns-clause-many
returns-clause-many g c = λ some.
    let s = g.V.Scale in
    let rule = g.W.Way.rule in
    let choices = length c.args.choices.now in
    let shown = length c.args.shown.now in
    let problem = (state_of s.means c.in_ok-problem.problem).problem in
    let after = c.solve_again.new in
    let (none, read) = c.in_ok-problem.ensures in
    file_solved s.rules rule c.args.bytes.now choices shown problem after.place after.choices after.shown c.located.result none read
    (rw c.located.ensures (answered_located 0 (store_tests rule choices shown problem) _ c.solve_again.result c.solve_again.ensures.answer))
