use Rattle.std.proofs.Common.{ℕ, List, length, get_or, sym, ap, ◌∙◌, ap₂, arith}
use Rattle.theory.specs.Problem.{at}
use Rattle.tables.proofs.Ordered.{scope_is, within_sizes}
use Rattle.messages.proofs.variables.parent_of.Goals as goal

pub place_of-requires : goal.place_of-requires
place_of-requires c = omega (arith, c.requires.function, (within_sizes c.args.forest.now.tables.now).few_functions)

pub bounds-scope-place_of : goal.bounds-scope-place_of
bounds-scope-place_of c =
    let same = scope_is c.args.forest.now.tables.now c.args.function ∙ sym c.scope-scope.ensures.list in
    omega (arith, c.requires.rooted.well.fun_place c.args.function c.requires.function, ap length same, c.place_of.ensures)

pub returns : goal.returns
unfolding at
returns c =
    let same = c.scope-scope.ensures.list ∙ sym (scope_is c.args.forest.now.tables.now c.args.function) in
    ap₂ (λ (s : List ℕ) (p : ℕ). get_or s p 0) same (c.place_of.ensures)
