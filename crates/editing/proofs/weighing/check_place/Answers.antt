use Rattle.std.proofs.Common.{length, sym, refl, ap, ◌∙◌, inl, inr, arith}
use Rattle.layout.specs.View.{domains_of, scopes_of}
use Rattle.tables.proofs.Ordered.{functions_length, scope_is}
use Rattle.editing.proofs.weighing.check_place.Goals as goal

pub returns-then-function-functions : goal.returns-then-function-functions
returns-then-function-functions c =
    let t = c.args.tables.now in
    let count = functions_length (domains_of t.layout) (scopes_of t.layout) t.words in
    inl (omega arith, refl)

pub returns-then-place-scope : goal.returns-then-place-scope
returns-then-place-scope c =
    let t = c.args.tables.now in
    let count = functions_length (domains_of t.layout) (scopes_of t.layout) t.words in
    let places = ap length (scope_is t c.args.function ∙ sym c.scope.ensures.list) in
    inr (λ none. omega arith, inl (omega arith, refl))

pub returns : goal.returns
returns c =
    let t = c.args.tables.now in
    let count = functions_length (domains_of t.layout) (scopes_of t.layout) t.words in
    let places = ap length (scope_is t c.args.function ∙ sym c.scope.ensures.list) in
    ((λ none. omega arith, (λ past. omega arith, tt)), (omega arith, omega arith))
