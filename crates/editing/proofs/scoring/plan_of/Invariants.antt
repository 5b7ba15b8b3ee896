use Rattle.std.proofs.Common.{◌≡◌, ℕ, ◌<◌, ◌≤◌, length, get_or}
use Rattle.editing.proofs.scoring.plan_of.Given as goal

abbrev pub invariant-loop-v : goal.invariant-loop-v
invariant-loop-v l = (length l.plan ≡ 64) × ((v : ℕ) → v < l.v → get_or l.plan v 0 ≡ get_or l.list v 0) × ((v : ℕ) → l.v ≤ v → get_or l.plan v 0 ≡ 0)
