use Rattle.std.proofs.Common.{◌≡◌, ℕ, List, [], ◌∷◌, ◌++◌, length, arith}
use Rattle.layout.specs.View.{domains_of, scopes_of, words_in}
use Rattle.file.proofs.Records.{told_answered}
use Rattle.file.proofs.scopes.add_scope.Goals as goal

pub returns : goal.returns
returns c =
    let l = c.args.layout.now in
    let told = told_answered (domains_of l) c.args.bytes.now (length (scopes_of l)) (words_in l) c.args.place
    (λ (xs : List ℕ) (_ : Unit {0}). (domains_of c.add_function.new.self ≡ domains_of l) × (scopes_of c.add_function.new.self ≡ scopes_of l ++ (xs ∷ [])))
    c.min-size.result (omega (arith, c.min-size.ensures)) c.add_function.result c.add_function.ensures.answer in
    rw c.located.ensures told
