use Rattle.std.proofs.Common.{◌≡◌, take}
use Rattle.theory.specs.Problem.{index}
use Rattle.messages.specs.Combinations.{cleared}
use Rattle.messages.specs.Places.{count_in, place_in, sizes_in}
use Rattle.messages.proofs.places.Places.cut_index.Given as goal

abbrev pub invariant-loop-p : goal.invariant-loop-p
invariant-loop-p l = l.index ≡ index (take l.p (sizes_in l.self)) (take l.p (cleared (λ q. (place_in l.self q).kept) (take (count_in l.self) l.values)))
