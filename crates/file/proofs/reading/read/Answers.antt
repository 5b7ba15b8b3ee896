use Rattle.std.proofs.Common.{ℕ, refl, subst}
use Rattle.std.proofs.lemmas.Result.{err_from_is_err_and}
use Rattle.theory.specs.Refusals.{First}
use Rattle.theory.proofs.Refusing.{first_before}
use Rattle.file.specs.Numbers.{refusal}
use Rattle.file.specs.Tests.{header_tests}
use Rattle.file.proofs.reading.read.Goals as goal

pub returns-in_err-header : goal.returns-in_err-header
returns-in_err-header g c =
    let e = err_from_is_err_and c.from_residual.result c.from_residual.ensures.1 in
    let f = c.in_err-header.field-0.0 in
    let here = subst (λ (n : ℕ). First (header_tests n c.args.bytes.now) (refusal f)) c.code.ensures c.in_err-header.ensures in
    rw (e.1, e.2) (record { answer = first_before (header_tests g.V.Scale.rules.code c.args.bytes.now) _ (refusal f) here; declined = refl })

pub returns-in_err-entries : goal.returns-in_err-entries
returns-in_err-entries g c =
    let e = err_from_is_err_and c.from_residual-in_err-entries.result c.from_residual-in_err-entries.ensures.1 in
    rw (e.1, e.2) (record { answer = c.in_err-entries.ensures; declined = refl })
