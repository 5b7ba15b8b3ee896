use Rattle.std.proofs.lemmas.Result.{err_from_is_err_and}
use Rattle.theory.proofs.Refusing.{first_before}
use Rattle.file.specs.Tests.{file_tests}
use Rattle.engine.specs.View.{state_of}
use Rattle.ffi.proofs.Copying.{copy_answered}
use Rattle.ffi.proofs.writing.written.Goals as goal

pub returns-in_err-problem-clause-many : goal.returns-in_err-problem-clause-many
returns-in_err-problem-clause-many g c = λ some.
    let e = err_from_is_err_and c.from_residual.result c.from_residual.ensures.1 in
    rw (e.1, e.2) (first_before (file_tests g.V.Scale.rules c.args.bytes.now) _ _ c.in_err-problem.ensures)

pub returns-clause-many : goal.returns-clause-many
returns-clause-many g c = λ some.
    let s = g.V.Scale in
    let (none, read) = c.in_ok-problem.ensures in
    copy_answered s.rules c.args.bytes.now c.args.out.now c.write_again.new.out (state_of s.means c.in_ok-problem.problem).problem c.write_again.result none read (c.write_again.ensures.many some)
