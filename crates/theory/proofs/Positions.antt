-- The positions of plans in a table. Assumes nothing.
use Rattle.std.proofs.Common.{◌≡◌, ℕ, zero, suc, ◌<◌, ◌≤◌, List, [], ◌∷◌, map, length, get_or, sym, refl, ap, ◌∙◌, subst, ap₂, inl, inr, arith}
use Rattle.std.proofs.lemmas.Bool.{cases_eq}
use Rattle.theory.specs.Problem.{Problem, Plan, Valid, Sound, put, size, functions, function, scope_of, arity, at, product, index, position}
use Rattle.theory.specs.Theorems.{Positions}
use Rattle.theory.proofs.Plans.{put_here, put_away, put_valid, nothing, nothing_valid}
use Rattle.theory.proofs.Index.{Within, index_below, index_one, index_each}

-- lists of values and of sizes, place by place
pub map_within : (y sizes : ℕ → ℕ) (scope : List ℕ) → ((p : ℕ) → p < length scope → y (get_or scope p 0) < sizes (get_or scope p 0)) → Within (map sizes scope) (map y scope)
map_within y sizes [] each = tt
map_within y sizes (v ∷ scope) each = (each 0 (omega arith), map_within y sizes scope (λ p k. each (suc p) (omega arith)))

within_at : (sizes : ℕ → ℕ) (scope xs : List ℕ) → Within (map sizes scope) xs → (p : ℕ) → p < length scope → get_or xs p 0 < sizes (get_or scope p 0)
within_at sizes [] xs w p k = absurd (omega arith)
within_at sizes (v ∷ scope) [] w p k = absurd w
within_at sizes (v ∷ scope) (x ∷ xs) w zero k = w.0
within_at sizes (v ∷ scope) (x ∷ xs) w (suc p) k = within_at sizes scope xs w.1 p (omega arith)

map_is : (y sizes : ℕ → ℕ) (scope xs : List ℕ) → Within (map sizes scope) xs → ((p : ℕ) → p < length scope → y (get_or scope p 0) ≡ get_or xs p 0) → map y scope ≡ xs
map_is y sizes [] [] w each = refl
map_is y sizes [] (x ∷ xs) w each = absurd w
map_is y sizes (v ∷ scope) [] w each = absurd w
map_is y sizes (v ∷ scope) (x ∷ xs) w each = ap₂ ◌∷◌ (each 0 (omega arith)) (map_is y sizes scope xs w.1 (λ p k. each (suc p) (omega arith)))

map_at : (y z : ℕ → ℕ) (scope : List ℕ) → map y scope ≡ map z scope → (p : ℕ) → p < length scope → y (get_or scope p 0) ≡ z (get_or scope p 0)
map_at y z [] e p k = absurd (omega arith)
map_at y z (v ∷ scope) e zero k = cc
map_at y z (v ∷ scope) e (suc p) k = map_at y z scope (cc) p (omega arith)

module _ (P : Problem) (sound : Sound P) (f : ℕ) (known : f < functions P) where
  plan_within : (y : Plan) → Valid P y → Within (map (size P) (scope_of P f)) (map y (scope_of P f))
  unfolding at
  plan_within y valid = map_within y (size P) (scope_of P f) (λ p k. valid (at P f p) (sound.known f p known k))

  module _ (xs : List ℕ) (fits : Within (map (size P) (scope_of P f)) xs) where
    -- a plan with the values xs at the first k places
    spread : ℕ → Plan
    spread zero = nothing P
    spread (suc k) = put (spread k) (at P f k) (get_or xs k 0)

    spread_valid : (k : ℕ) → k ≤ arity P f → Valid P (spread k)
    unfolding spread at
    spread_valid zero h = nothing_valid P sound
    spread_valid (suc k) h = put_valid P (spread k) (at P f k) (get_or xs k 0) (spread_valid k (omega arith)) (within_at (size P) (scope_of P f) xs fits k h)

    spread_at : (k p : ℕ) → k ≤ arity P f → p < k → spread k (at P f p) ≡ get_or xs p 0
    unfolding spread
    spread_at zero p h before = absurd (omega arith)
    spread_at (suc k) p h before =
        let earlier = λ (i : p < k). spread_at k p (omega arith) i in
        elim (cases_eq p k) [
          | inl e ↦ subst (λ (i : ℕ). spread (suc k) (at P f i) ≡ get_or xs i 0) (sym e) (put_here (spread k) (at P f k) (get_or xs k 0))
          | inr d ↦ put_away (spread k) (at P f k) (get_or xs k 0) (at P f p) (λ e. d (sound.distinct f p k known (omega arith) h e)) ∙ earlier (omega arith)
        ]

    spread_is : map (spread (arity P f)) (scope_of P f) ≡ xs
    unfolding at
    spread_is = map_is (spread (arity P f)) (size P) (scope_of P f) xs fits (λ p k. spread_at (arity P f) p (omega arith) k)

  -- the table is as long as there are combinations
  table_length : length (function P f).words ≡ product (map (size P) (scope_of P f))
  table_length = sound.full f known

  pub positions : Positions P f
  unfolding position at
  positions = record {
    within = λ y valid. subst (λ (n : ℕ). position P f y < n) (sym table_length) (index_below (map (size P) (scope_of P f)) (map y (scope_of P f)) (plan_within y valid));
    each = λ i k.
        let (xs, fits, e) = index_each (map (size P) (scope_of P f)) i (subst (λ (n : ℕ). i < n) table_length k) in
        (spread xs fits (arity P f), spread_valid xs fits (arity P f) (omega arith), ap (index (map (size P) (scope_of P f))) (spread_is xs fits) ∙ e);
    one = λ y z valid valid' e p k.
        map_at y z (scope_of P f) (index_one (map (size P) (scope_of P f)) (map y (scope_of P f)) (map z (scope_of P f)) (plan_within y valid) (plan_within z valid') e) p k;
  }
