use Rattle.std.proofs.Common.{refl}
use Rattle.std.proofs.lemmas.Result.{err_from_is_err_and}
use Rattle.editing.proofs.Edited.{variable_added}
use Rattle.editing.proofs.adding.extend.Goals as goal

pub returns-in_err-add_variable-clause-answer : goal.returns-in_err-add_variable-clause-answer
returns-in_err-add_variable-clause-answer c =
    let e = err_from_is_err_and c.from_residual.result c.from_residual.ensures.1 in
    rw (e.1, e.2) c.in_err-add_variable.ensures.answer

pub returns : goal.returns
returns c =
    let t = c.args.tables.now in
    let accepted = c.in_ok-add_variable.ensures.answer in
    record { answer = (accepted.0, variable_added t c.add_variable.new.self t.words c.args.size accepted.1.0 accepted.1.1 refl); declined = tt }
