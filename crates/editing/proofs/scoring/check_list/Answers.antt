use Rattle.std.proofs.Common.{ℕ, ◌<◌, ◌≤◌, List, length, get_or, refl, ap, subst, inl, inr, arith}
use Rattle.theory.specs.Problem.{size}
use Rattle.editing.proofs.scoring.check_list.Goals as goal

pub returns-then-has_no_value : goal.returns-then-has_no_value
unfolding size
returns-then-has_no_value c =
    let list = c.args.list.now in
    let long = ap length c.domains-sizes.ensures in
    let found = subst (λ (sizes : List ℕ). (v : ℕ) × (v < length sizes) × (get_or sizes v 0 ≤ get_or list v 0)) c.domains-sizes.ensures c.if-has_no_value.ensures in
    inr (λ other. other (omega arith), inl (found, refl))

pub returns : goal.returns
unfolding size
returns c =
    let list = c.args.list.now in
    let long = ap length c.domains-sizes.ensures in
    let valid = subst (λ (sizes : List ℕ). (v : ℕ) → v < length sizes → get_or list v 0 < get_or sizes v 0) c.domains-sizes.ensures c.if-has_no_value.ensures in
    ((λ other. other (omega arith), (λ (v, known, past). omega (arith, valid v known), tt)), (omega arith, valid))
