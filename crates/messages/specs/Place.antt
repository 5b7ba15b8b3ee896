-- A place of a function, as its messages see it. Assumes nothing.
use Rattle.std.specs.Prelude.{◌<◌, ◌≤◌, false}
use Rattle.messages.specs.declared.place.Place.{Place}

abbrev pub no_place : Place
no_place = record { variable = 0; size = 0; kept = false; below = false }

-- Its variable is one of at most 64, and has 1 to 16 values.
abbrev pub Small : Place → Type 0
Small p = (p.variable < 64) × (1 ≤ p.size) × (p.size ≤ 16)
