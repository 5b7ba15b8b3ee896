use Rattle.std.proofs.Common.{[], sym, ap, arith}
use Rattle.std.proofs.lemmas.List.{get_or_past}
use Rattle.theory.specs.Problem.{Function}
use Rattle.layout.specs.View.{domains_of, scopes_of}
use Rattle.tables.proofs.Ordered.{functions_length}
use Rattle.tables.specs.View.{problem_of}
use Rattle.tables.proofs.tables.Tables.table.Goals as goal

pub returns-else-function-functions : goal.returns-else-function-functions
returns-else-function-functions c =
    let t = c.args.self.now in
    let l = t.layout in
    let long = functions_length (domains_of l) (scopes_of l) t.words in
    sym (ap (λ (f : Function). f.words) (get_or_past (problem_of t).tables c.args.function (record { scope = []; words = [] }) (omega (arith, c.if-function-functions.false))))
