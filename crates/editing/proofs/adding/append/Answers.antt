use Rattle.std.proofs.Common.{ℕ, ◌-◌, ◌++◌, take, drop, replicate, sym, ◌∙◌, ap₂}
use Rattle.std.proofs.lemmas.Result.{err_from_is_err_and}
use Rattle.layout.specs.Numbers.{problem_number}
use Rattle.layout.specs.View.{domains_of, scopes_of, words_in}
use Rattle.tables.specs.View.{problem_of}
use Rattle.tables.proofs.Ordered.{functions_length, scopes_from, within_sizes}
use Rattle.calls.proofs.Forms.{first_by_scopes, none_by_scopes}
use Rattle.editing.proofs.Edited.{function_added}
use Rattle.editing.proofs.adding.append.Goals as goal

pub returns-in_err-add_function-clause-answer : goal.returns-in_err-add_function-clause-answer
returns-in_err-add_function-clause-answer c =
    let t = c.args.tables.now in
    let l = t.layout in
    let f = c.in_err-add_function.field-0.0 in
    let e = err_from_is_err_and c.from_residual.result c.from_residual.ensures.1 in
    let told = scopes_from (domains_of l) (scopes_of l) t.words in
    rw (e.1, e.2) (first_by_scopes (problem_of t) (within_sizes t).sound (scopes_of l) told c.args.scope.now (problem_number f) c.in_err-add_function.ensures.answer)

pub returns : goal.returns
returns c =
    let t = c.args.tables.now in
    let l = t.layout in
    let m = c.add_function.new.self in
    let scope = c.args.scope.now in
    let word = c.args.word in
    let told = scopes_from (domains_of l) (scopes_of l) t.words in
    let accepted = c.in_ok-add_function.ensures.answer in
    let rest = drop (words_in m) t.words in
    let words = c.fill.ensures ∙ ap₂ (λ (from to : ℕ). take from t.words ++ (replicate (to - from) word ++ drop to t.words)) c.words-start.ensures c.words-end.ensures in
    record {
      answer = (
        none_by_scopes (problem_of t) (within_sizes t).sound (scopes_of l) told scope accepted.0,
        (
          c.functions-number.ensures ∙ sym (functions_length (domains_of l) (scopes_of l) t.words),
          function_added t m c.fill.new.words scope rest word accepted.1.0 accepted.1.1 words,
        ),
      );
      declined = tt;
    }
