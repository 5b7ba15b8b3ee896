use Rattle.std.proofs.Common.{◌≡◌, ℕ, ◌*◌, ◌<◌, get_or}
use Rattle.file.specs.Bytes.{half}
use Rattle.file.specs.Inner.{Written}
use Rattle.file.proofs.writing.put_numbers.Given as goal

abbrev pub invariant-loop-j : goal.invariant-loop-j
invariant-loop-j l = Written l.initial.out l.out 0 (2 * l.j) × ((j : ℕ) → j < l.j → half l.out (2 * j) ≡ get_or l.fn.numbers j 0)
