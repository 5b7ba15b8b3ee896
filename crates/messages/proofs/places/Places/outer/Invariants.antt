use Rattle.std.proofs.Common.{◌≡◌, take}
use Rattle.short_list.specs.View.{items_of}
use Rattle.messages.specs.Places.{places_in}
use Rattle.messages.proofs.places.Places.outer.Given as goal

abbrev pub invariant-loop-place : goal.invariant-loop-place
invariant-loop-place l = items_of l.list ≡ take l.place-index (places_in l.self)
