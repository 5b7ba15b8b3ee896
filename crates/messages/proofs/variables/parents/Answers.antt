use Rattle.std.proofs.Common.{ℕ, ◌<◌, get_or, set, sym, ap, ◌∙◌, inl, inr, arith}
use Rattle.std.proofs.lemmas.Bool.{cases_eq}
use Rattle.std.proofs.lemmas.List.{get_or-set_same, get_or-set_other, length-set}
use Rattle.theory.specs.Forest.{above}
use Rattle.theory.specs.Problem.{functions}
use Rattle.layout.specs.View.{domains_of, scopes_of}
use Rattle.tables.proofs.Ordered.{functions_length, within_sizes}
use Rattle.messages.specs.Rooted.{problem_in, hanging_in}
use Rattle.messages.proofs.variables.parents.Goals as goal

pub parent_of-requires-clause-function : goal.parent_of-requires-clause-function
parent_of-requires-clause-function c =
    let t = c.args.forest.now.tables.now in
    omega (arith, c.loop-function-test.true, c.functions-function-end.ensures, functions_length (domains_of t.layout) (scopes_of t.layout) t.words)

pub loop-function-preserved : goal.loop-function-preserved
loop-function-preserved c =
    let forest = c.args.forest.now in
    let t = forest.tables.now in
    let i = c.loop-function.function in
    let parents = c.loop-function.parents in
    let (long, so_far) = c.loop-function.invariant in
    let known : i < functions (problem_in forest) = omega (arith, c.loop-function-test.true, c.functions-function-end.ensures, functions_length (domains_of t.layout) (scopes_of t.layout) t.words) in (
      length-set parents i c.parent_of.result ∙ long,
      λ f low. elim (cases_eq f i) [
        | inl e ↦ ap (λ (j : ℕ). get_or (set parents i c.parent_of.result) j 0) e ∙ get_or-set_same parents i c.parent_of.result 0 (omega (arith, known, long, (within_sizes t).few_functions))
            ∙ c.parent_of.ensures ∙ ap (above (problem_in forest) (hanging_in forest)) (sym e)
        | inr other ↦ get_or-set_other parents i f c.parent_of.result 0 other ∙ so_far f (omega (arith, low, other))
      ],
    )

pub returns : goal.returns
returns c f known =
    let t = c.args.forest.now.tables.now in
    c.loop-function.invariant.1 f (omega (arith, known, c.loop-function-test.false, c.functions-function-end.ensures, functions_length (domains_of t.layout) (scopes_of t.layout) t.words))
