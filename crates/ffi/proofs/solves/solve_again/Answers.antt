use Rattle.std.proofs.Common.{◌≡◌, length, refl, ◌∙◌, inl, inr, arith}
use Rattle.std.proofs.lemmas.Bool.{cases_eq}
use Rattle.std.proofs.lemmas.Result.{err_from_is_err_and}
use Rattle.theory.specs.Refusals.{First}
use Rattle.theory.proofs.Refusing.{first_none}
use Rattle.layout.specs.Numbers.{problem_number}
use Rattle.solving.specs.Report.{figures_of, stores_of}
use Rattle.engine.specs.View.{state_of}
use Rattle.ffi.specs.Reports.{store_tests}
use Rattle.ffi.proofs.Solving.{solve_accepted, solve_declined}
use Rattle.ffi.proofs.solves.solve_again.Given.{Over}
use Rattle.ffi.proofs.solves.solve_again.Goals as goal
use Rattle.ffi.proofs.solves.solve_again.Goals.{After-from_residual}

pub loop-preserved : goal.loop-preserved
loop-preserved g c =
    let s = g.V.Scale in
    let after = c.solve.new in
    let wide : length c.args.shown.now ≡ 4608 = omega arith in
    let (none, done) =
    solve_accepted s.rules g.W.Way.rule (state_of s.means c.loop.problem) (state_of s.means after.problem) (state_of s.means c.args.problem.now).problem
    (length c.loop.values) (length c.loop.choices) (length c.args.choices.now) (length c.args.shown.now)
    (c.loop.auto.values ∙ c.requires.values) wide c.loop.auto.choices c.loop.invariant.same
    (figures_of s.means after.report) (stores_of s.means after.values after.choices) c.in_ok-solve.ensures.carries c.in_ok-solve.ensures.guaranteed in
    record { same = done.same; unsolved = λ none. absurd (omega arith); solved = λ _. (none, done) }

-- what declines a solve declines the first one
declined : (g : Over) (c : After-from_residual g) →
    First (store_tests g.W.Way.rule (length c.args.choices.now) (length c.args.shown.now) (state_of g.V.Scale.means c.args.problem.now).problem) (problem_number c.in_err-solve.field-0.0)
declined g c =
    let s = g.V.Scale in
    let wide : length c.args.shown.now ≡ 4608 = omega arith in
    solve_declined s.rules g.W.Way.rule (state_of s.means c.loop.problem) (state_of s.means c.solve.new.problem) (state_of s.means c.args.problem.now).problem
    (length c.loop.values) (length c.loop.choices) (length c.args.choices.now) (length c.args.shown.now)
    (c.loop.auto.values ∙ c.requires.values) wide c.loop.auto.choices c.loop.invariant.same _ c.in_err-solve.ensures.carries

pub returns-in_err-solve-clause-answer : goal.returns-in_err-solve-clause-answer
returns-in_err-solve-clause-answer g c =
    let e = err_from_is_err_and c.from_residual.result c.from_residual.ensures.1 in
    rw (e.1, e.2) (declined g c)

pub returns-in_err-solve-clause-choices : goal.returns-in_err-solve-clause-choices
returns-in_err-solve-clause-choices g c =
    let tests = store_tests g.W.Way.rule (length c.args.choices.now) (length c.args.shown.now) (state_of g.V.Scale.means c.args.problem.now).problem in
    let e = err_from_is_err_and c.from_residual.result c.from_residual.ensures.1 in
    rw e.1
    (c.in_err-solve.ensures.choices ∙ elim (cases_eq c.loop.counter 0) [
      | inl none ↦ c.loop.invariant.unsolved none
      | inr some ↦ absurd (first_none tests (problem_number c.in_err-solve.field-0.0) (declined g c) (c.loop.invariant.solved (omega arith)).0)
    ])

pub returns-clause-answer : goal.returns-clause-answer
returns-clause-answer g c =
    let s = g.V.Scale in
    let (none, done) = c.loop.invariant.solved (omega (arith, c.requires.some, c.loop-test.false)) in (
      none,
      record {
        figures = figures_of s.means c.loop.report;
        stores = stores_of s.means c.loop.values c.loop.choices;
        solved = done.solved;
        guaranteed = done.guaranteed;
        tells = c.shown_figures.ensures;
        chosen = refl;
        cells = c.show_values.ensures;
      },
    )
