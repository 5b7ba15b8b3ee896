-- The list of a plan's values: its first values, and then zeros. Assumes nothing.
use Rattle.std.proofs.Common.{◌≡◌, ℕ, ◌+◌, ◌-◌, ◌<◌, ◌≤◌, List, ◌++◌, length, get_or, replicate, sym, refl, ◌∙◌, ⊎_elim, arith}
use Rattle.std.proofs.lemmas.Bool.{cases_lt}
use Rattle.std.proofs.lemmas.List.{ext_get_or, get_or-replicate, get_or_append_left, get_or-append_right, length-append, length-replicate}
use Rattle.rules.specs.Figures.{planned}

pub plan_is : (l front : List ℕ) (n : ℕ) → length l ≡ length front + n → ((v : ℕ) → v < length front → planned l v ≡ get_or front v 0) →
    ((v : ℕ) → length front ≤ v → planned l v ≡ 0) → l ≡ front ++ replicate n 0
plan_is l front n long first rest =
    let zeros : List ℕ = replicate n 0 in
    let many : length zeros ≡ n = length-replicate n 0 in
    let both : length (front ++ zeros) ≡ length front + length zeros = length-append front zeros in
    ext_get_or 0 l (front ++ zeros) (omega arith) (λ v h. ⊎_elim
    (λ (low : v < length front). first v low ∙ sym (get_or_append_left front zeros 0 v low))
    (λ (high : length front ≤ v).
    let short : v - length front < n = omega arith in
    rest v high ∙ sym (get_or-replicate n (v - length front) 0 0 short) ∙ sym (get_or-append_right front zeros (length front) v 0 refl high))
    (cases_lt v (length front)))
