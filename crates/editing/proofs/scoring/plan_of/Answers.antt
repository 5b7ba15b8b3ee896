use Rattle.std.proofs.Common.{◌≡◌, ℕ, ◌<◌, ◌≤◌, get_or, replicate, refl, ⊎_elim, arith}
use Rattle.std.proofs.lemmas.List.{get_or_past, get_or-replicate, length-replicate}
use Rattle.std.proofs.lemmas.Bool.{cases_lt}
use Rattle.editing.proofs.scoring.plan_of.Goals as goal

-- one number at every place, and past the last
same_everywhere : (n v x : ℕ) → get_or (replicate n x) v x ≡ x
same_everywhere n v x =
    ⊎_elim
    (λ (lt : v < n). get_or-replicate n v x x lt)
    (λ (le : n ≤ v). let long = length-replicate n x in get_or_past (replicate n x) v x (omega arith))
    (cases_lt v n)

pub loop-v-init : goal.loop-v-init
loop-v-init c = (refl, λ v h. omega arith, λ v h. same_everywhere 64 v 0)
