use Rattle.std.proofs.Common.{◌≡◌, ◌≤◌, length}
use Rattle.theory.specs.Refusals.{NoneFits}
use Rattle.solving.specs.Report.{figures_of, stores_of}
use Rattle.engine.specs.View.{state_of}
use Rattle.sheets.specs.Sheets.{SolvedAs}
use Rattle.ffi.specs.Reports.{store_tests}
use Rattle.ffi.proofs.solves.solve_again.Given as goal

abbrev pub invariant-loop : goal.invariant-loop
invariant-loop g l = record {
  same : (state_of g.V.Scale.means l.problem).problem ≡ (state_of g.V.Scale.means l.initial.problem).problem;
  unsolved : l.counter ≡ 0 → l.choices ≡ l.initial.choices;
  solved : 1 ≤ l.counter → NoneFits (store_tests g.W.Way.rule (length l.initial.choices) (length l.shown) (state_of g.V.Scale.means l.initial.problem).problem) × SolvedAs g.V.Scale.rules g.W.Way.rule (state_of g.V.Scale.means l.initial.problem).problem (state_of g.V.Scale.means l.problem).problem (figures_of g.V.Scale.means l.report) (stores_of g.V.Scale.means l.values l.choices);
}
