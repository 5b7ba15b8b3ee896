use Rattle.std.proofs.Common.{◌≡◌, ℕ, ◌<◌, ◌≤◌, length, get_or}
use Rattle.forest.specs.Labelled.{relabel}
use Rattle.forest.proofs.keeping.relabelled.Given as goal

-- the labels below a are new, and the others are as they were
abbrev pub invariant-loop-a : goal.invariant-loop-a
invariant-loop-a l =
    (length l.labels ≡ 128)
    × ((k d : ℕ) → k < l.a → get_or l.labels k d ≡ relabel l.low l.high (get_or l.initial.labels k d))
    × ((k d : ℕ) → l.a ≤ k → get_or l.labels k d ≡ get_or l.initial.labels k d)
