use Rattle.std.proofs.Common.{◌≡◌, take}
use Rattle.sittings.specs.Lines.{filled}
use Rattle.sittings.specs.Spoken.{texts}
use Rattle.sittings.proofs.line.words.Given as goal

abbrev pub invariant-loop-piece : goal.invariant-loop-piece
invariant-loop-piece l = texts l.words.items ≡ filled (texts (take l.piece-index l.piece-items))
