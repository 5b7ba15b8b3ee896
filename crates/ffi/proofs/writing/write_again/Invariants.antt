use Rattle.std.proofs.Common.{◌≡◌, ◌≤◌, drop}
use Rattle.theory.specs.Refusals.{NoneFits}
use Rattle.file.specs.Spelling.{file_size}
use Rattle.file.specs.Writing.{WrittenAs, write_tests}
use Rattle.engine.specs.View.{state_of}
use Rattle.ffi.proofs.writing.write_again.Given as goal

abbrev pub invariant-loop : goal.invariant-loop
invariant-loop g l = record {
  later : drop (file_size (state_of g.V.Scale.means l.problem).problem) l.out ≡ drop (file_size (state_of g.V.Scale.means l.problem).problem) l.initial.out;
  unwritten : l.counter ≡ 0 → (l.out ≡ l.initial.out) × (l.written ≡ 0);
  written : 1 ≤ l.counter → NoneFits (write_tests (state_of g.V.Scale.means l.problem).problem l.initial.out) × (l.written ≡ file_size (state_of g.V.Scale.means l.problem).problem) × WrittenAs g.V.Scale.rules (state_of g.V.Scale.means l.problem).problem l.initial.out l.out;
}
