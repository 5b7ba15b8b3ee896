use Rattle.std.proofs.Common.{[], ◌∷◌, length}
use Rattle.std.proofs.lemmas.Result.{err_from_is_err_and}
use Rattle.theory.specs.Refusals.{function_tests}
use Rattle.theory.proofs.Refusing.{first_before}
use Rattle.layout.specs.View.{domains_of, scopes_of, words_in}
use Rattle.file.specs.Numbers.{refusal}
use Rattle.file.specs.Tests.{at_place, scope_told, UnusedUsed}
use Rattle.file.proofs.scopes.read_scope.Goals as goal

pub returns-in_err-add_scope : goal.returns-in_err-add_scope
returns-in_err-add_scope c =
    let l = c.args.layout.now in
    let place = c.args.place in
    let bytes = c.args.bytes.now in
    let f = c.in_err-add_scope.field-0.0 in
    let e = err_from_is_err_and c.from_residual.result c.from_residual.ensures.1 in
    rw (e.1, e.2)
    (first_before (at_place place (function_tests (domains_of l) (length (scopes_of l)) (words_in l) (scope_told bytes))) (((22, place), UnusedUsed bytes) ∷ []) (refusal f) c.in_err-add_scope.ensures)
