use Rattle.std.proofs.Common.{get_or}
use Rattle.ffi.proofs.Words.{Begun}
use Rattle.ffi.proofs.numbers.word_of.Given as goal

abbrev pub invariant-loop-bit : goal.invariant-loop-bit
invariant-loop-bit l = Begun (get_or l.links.words l.number 0) l.bit l.word
