-- The place at which a variable is found in a scope. Assumes nothing.
use Rattle.std.proofs.Common.{◌≡◌, ℕ, ◌<◌, false, ◌==◌, List, length, get_or, Some, sym, ap, ◌∙◌, arith}
use Rattle.std.specs.List.{position, position_or_len}
use Rattle.std.proofs.lemmas.Bool.{cond-true, eq-eqb, lt-ltb, ne_eqb}
use Rattle.std.proofs.lemmas.List.Sums.{position_or_len_is}

pub place_found : (scope : List ℕ) (v p : ℕ) → ((i j : ℕ) → i < length scope → j < length scope → get_or scope i 0 ≡ get_or scope j 0 → i ≡ j) →
    p < length scope → get_or scope p 0 ≡ v → position (λ w. w == v) scope ≡ Some p
place_found scope v p distinct within here =
    let earlier : (i : ℕ) → i < p → (get_or scope i 0 == v) ≡ false =
    λ i lt. ne_eqb (get_or scope i 0) v (λ e. let same = distinct i p (omega arith) within (e ∙ sym here) in omega arith) in
    let first : position_or_len (λ w. w == v) scope ≡ p = position_or_len_is (λ w. w == v) scope p 0 (omega arith) earlier (λ _. eq-eqb (get_or scope p 0) v here) in
    cond-true _ _ _ (lt-ltb (position_or_len (λ w. w == v) scope) (length scope) (omega arith)) ∙ ap Some first
