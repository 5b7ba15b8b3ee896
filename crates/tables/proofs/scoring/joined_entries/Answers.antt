use Rattle.std.proofs.Common.{◌≡◌, ℕ, rules, get_or, ap, ◌∙◌, arith}
use Rattle.layout.specs.View.{domains_of, scopes_of}
use Rattle.theory.specs.Joins.{joins}
use Rattle.theory.specs.Problem.{functions, entry}
use Rattle.joining.proofs.Counting.{joins_ones}
use Rattle.tables.specs.View.{problem_of}
use Rattle.tables.proofs.Ordered.{functions_length, within_sizes}
use Rattle.tables.proofs.scoring.joined_entries.Goals as goal

pub returns : goal.returns
returns g c =
    let v = g.V.Scale in
    let t = c.args.tables.now in
    let l = t.layout in
    let long = functions_length (domains_of l) (scopes_of l) t.words in
    let end : c.args.functions ≡ functions (problem_of t) = omega (arith, c.requires) in
    let few = (within_sizes t).few_functions in
    let ones = joins_ones c.args.functions in
    let gives = λ (f : ℕ). entry v.rules (problem_of t) f (λ u. get_or c.args.plan u 0) in
    let sum = c.joined.ensures gives (λ f. 1) (λ f o below given. search rules) (omega arith) in
    record {
      exact = sum.exact ∙ ap (λ (n : ℕ). joins v.rules n gives) end;
      within = g.met.V.Scale.ties.wider _ 64 c.joined.result (omega arith) sum.few;
    }
