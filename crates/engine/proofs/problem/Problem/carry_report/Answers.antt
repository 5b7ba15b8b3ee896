use Rattle.std.proofs.Common.{sym}
use Rattle.std.proofs.lemmas.Result.{err_from_is_err_and}
use Rattle.layout.specs.Numbers.{problem_number}
use Rattle.calls.specs.State.{Call, Answer}
use Rattle.calls.specs.Step.{Step}
use Rattle.calls.proofs.Promised.{carried, plainly_guaranteed, lightest_reached}
use Rattle.engine.specs.View.{state_of, rule_of}
use Rattle.engine.proofs.problem.Problem.carry_report.Goals as goal

pub returns-in_err-standing-clause-carries : goal.returns-in_err-standing-clause-carries
returns-in_err-standing-clause-carries g c =
    let s = g.V.Scale in
    let now = state_of s.means c.args.self.now in
    let f = c.in_err-standing.field-0.0 in
    let e = err_from_is_err_and c.from_residual.result c.from_residual.ensures.1 in
    rw (e.1, e.2) (carried s.rules g.met.V.Scale.laws now now Call.report (Answer.refused (problem_number f)) (Step.declined c.in_err-standing.ensures))

pub returns-clause-carries : goal.returns-clause-carries
returns-clause-carries g c =
    let s = g.V.Scale in
    let now = state_of s.means c.args.self.now in
    carried s.rules g.met.V.Scale.laws now now Call.report _ (Step.told (sym c.in_ok-standing.ensures.1))

pub returns-clause-told : goal.returns-clause-told
returns-clause-told g c =
    let s = g.V.Scale in
    let laws = g.met.V.Scale.laws in
    let stands = sym c.in_ok-standing.ensures.1 in
    record {
      rule = rule_of c.in_ok-standing.standing.rule;
      stands = stands;
      guaranteed = λ reached. plainly_guaranteed s.rules laws reached stands;
      lightest = λ gaps reached. lightest_reached s.rules laws gaps reached stands;
    }
