use Rattle.std.proofs.Common.{◌≡◌, ℕ, ◌+◌, ◌*◌, ◌<◌, get_or}
use Rattle.file.specs.Bytes.{word}
use Rattle.file.specs.Inner.{Written}
use Rattle.file.proofs.writing.put_words.Given as goal

abbrev pub invariant-loop-k : goal.invariant-loop-k
invariant-loop-k l =
    Written l.initial.out l.out l.place (l.place + 4 * l.k)
    × ((k : ℕ) → k < l.k → word l.out (l.place + 4 * k) ≡ get_or l.words k 0)
