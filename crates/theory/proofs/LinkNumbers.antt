-- The numbers of links. Assumes nothing.
use Rattle.std.proofs.Common.{◌≡◌, ℕ, ◌+◌, ◌*◌, ◌/◌, ◌%◌, ◌<◌, ◌≤◌, true, ltb, [], length, get_or, ap, ◌∙◌, ap₂, ⊎_elim, arith}
use Rattle.std.proofs.lemmas.Bool.{ltb-true, lt-ltb, cases_lt}
use Rattle.std.proofs.lemmas.List.{get_or_past}
use Rattle.theory.specs.Problem.{Problem, Function, Sound, functions, arity, scope_of}
use Rattle.theory.specs.Links.{link, is_link}

-- a place of a function is a link
pub link_there : (P : Problem) → Sound P → (f p : ℕ) → f < functions P → p < arity P f → is_link P (link f p) ≡ true
link_there P sound f p k place =
    let few = sound.four_places f k in
    let own : (4 * f + p) / 4 ≡ f = omega arith in
    let here : (4 * f + p) % 4 ≡ p = omega arith in
    ap₂ (λ (i j : ℕ). ltb j (arity P i)) own here ∙ lt-ltb p (arity P f) place

-- a number is that of the link at its own place
pub link_own : (n : ℕ) → link (n / 4) (n % 4) ≡ n
link_own n = omega arith

-- the function of a link is there
pub link_known : (P : Problem) (n : ℕ) → is_link P n ≡ true → n / 4 < functions P
unfolding scope_of
link_known P n there = ⊎_elim (λ k. k)
    (λ (out : functions P ≤ n / 4).
    let place = ltb-true (n % 4) (arity P (n / 4)) there in
    let none : Function = record { scope = []; words = [] } in
    let empty : ◌≡◌ {A = Function} (get_or P.tables (n / 4) none) none = get_or_past P.tables (n / 4) none out in
    let nothing : arity P (n / 4) ≡ 0 = ap (λ (g : Function). length g.scope) empty in
    absurd (omega arith))
    (cases_lt (n / 4) (functions P))
