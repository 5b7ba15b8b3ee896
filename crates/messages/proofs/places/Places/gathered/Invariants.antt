use Rattle.std.proofs.Common.{◌≡◌, ℕ, ◌<◌, length, get_or}
use Rattle.theory.specs.Kept.{kept_at}
use Rattle.short_list.specs.View.{items_of}
use Rattle.tables.specs.View.{problem_of}
use Rattle.hanging.specs.Forest.{hanging_of}
use Rattle.messages.specs.Place.{no_place}
use Rattle.messages.specs.Places.{place_at}
use Rattle.messages.proofs.places.Places.gathered.Given as goal

abbrev pub invariant-loop-p : goal.invariant-loop-p
invariant-loop-p l =
    (length (items_of l.list) ≡ l.p)
    × ((p : ℕ) → p < l.p → get_or (items_of l.list) p no_place ≡ place_at (problem_of l.tables) (kept_at l.kept.words) (hanging_of l.hung) l.function p)
