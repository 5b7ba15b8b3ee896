use Rattle.std.proofs.Common.{length, refl, ap, inl, inr, arith}
use Rattle.layout.specs.View.{domains_of, scopes_of}
use Rattle.tables.proofs.Ordered.{functions_length}
use Rattle.editing.proofs.setting.admitted.Goals as goal

pub returns-then-function-functions : goal.returns-then-function-functions
returns-then-function-functions g c =
    let t = c.args.tables.now in
    let count = functions_length (domains_of t.layout) (scopes_of t.layout) t.words in
    inl (omega arith, refl)

pub returns-then-index-table : goal.returns-then-index-table
returns-then-index-table g c =
    let t = c.args.tables.now in
    let count = functions_length (domains_of t.layout) (scopes_of t.layout) t.words in
    let long = ap length c.table.ensures in
    inr (λ none. omega arith, inl (omega arith, refl))
