-- A position in a table by the values before a place, at it and after it. Assumes nothing.
use Rattle.std.proofs.Common.{◌≡◌, ℕ, zero, suc, ◌+◌, ◌*◌, ◌<◌, List, [], ◌∷◌, map, length, get_or, take, drop, set, sym, ap, ◌∙◌, inl, inr, mul_assoc, add-mul, one-mul, arith}
use Rattle.std.proofs.lemmas.List.{ext_get_or, get_or-map, get_or-set_same, get_or-set_other, length-map, length-set}
use Rattle.std.proofs.lemmas.Bool.{cases_eq}
use Rattle.theory.specs.Problem.{Plan, put, product, index}
use Rattle.theory.proofs.Plans.{put_here, put_away}

pub product_split : (size : ℕ → ℕ) (scope : List ℕ) (p : ℕ) → p < length scope →
    product (map size scope) ≡ product (map size (take p scope)) * size (get_or scope p 0) * product (map size (drop (suc p) scope))
product_split size [] p h = absurd (omega arith)
product_split size (v ∷ scope) zero h = ap (λ (n : ℕ). n * product (map size scope)) (sym (one-mul (size v)))
product_split size (v ∷ scope) (suc p) h =
    let early = product (map size (take p scope)) in
    let here = size (get_or scope p 0) in
    let late = product (map size (drop (suc p) scope)) in
    ap (λ (n : ℕ). size v * n) (product_split size scope p (omega arith))
    ∙ sym (mul_assoc (size v) (early * here) late)
    ∙ ap (λ (n : ℕ). n * late) (sym (mul_assoc (size v) early here))

-- one place more in front
in_front : (y a d t u x w : ℕ) → y * (a * d * t) + ((u * d + x) * t + w) ≡ ((y * a + u) * d + x) * t + w
in_front y a d t u x w =
    let first : y * (a * d * t) ≡ y * a * d * t = sym (mul_assoc y (a * d) t) ∙ ap (λ (n : ℕ). n * t) (sym (mul_assoc y a d)) in
    let second : (y * a * d + (u * d + x)) * t ≡ ((y * a + u) * d + x) * t = ap (λ (n : ℕ). n * t) (omega (arith, add-mul (y * a) u d)) in
    omega (arith, add-mul (y * a * d) (u * d + x) t)

pub index_split : (size : ℕ → ℕ) (y : Plan) (scope : List ℕ) (p x : ℕ) → p < length scope →
    index (map size scope) (set (map y scope) p x)
    ≡ (index (map size (take p scope)) (map y (take p scope)) * size (get_or scope p 0) + x) * product (map size (drop (suc p) scope))
    + index (map size (drop (suc p) scope)) (map y (drop (suc p) scope))
index_split size y [] p x h = absurd (omega arith)
index_split size y (v ∷ scope) zero x h = ap (λ (n : ℕ). n * product (map size scope) + index (map size scope) (map y scope)) (omega arith)
index_split size y (v ∷ scope) (suc p) x h =
    let early = index (map size (take p scope)) (map y (take p scope)) in
    let here = size (get_or scope p 0) in
    let late = product (map size (drop (suc p) scope)) in
    let after = index (map size (drop (suc p) scope)) (map y (drop (suc p) scope)) in
    ap (λ (n : ℕ). y v * product (map size scope) + n) (index_split size y scope p x (omega arith))
    ∙ ap (λ (n : ℕ). y v * n + ((early * here + x) * late + after)) (product_split size scope p (omega arith))
    ∙ in_front (y v) (product (map size (take p scope))) here late early x after

-- the values of a scope in which no variable stands twice, with another value for the variable at place p
pub put_values : (y : Plan) (scope : List ℕ) (p x : ℕ) → p < length scope → ((q : ℕ) → q < length scope → get_or scope q 0 ≡ get_or scope p 0 → q ≡ p) →
    map (put y (get_or scope p 0) x) scope ≡ set (map y scope) p x
put_values y scope p x h distinct = ext_get_or 0 (map (put y v x) scope) (set (map y scope) p x) same_length each
  where
    v : ℕ
    v = get_or scope p 0

    same_length : length (map (put y v x) scope) ≡ length (set (map y scope) p x)
    same_length = length-map scope (put y v x) ∙ sym (length-set (map y scope) p x ∙ length-map scope y)

    each : (q : ℕ) → q < length (map (put y v x) scope) → get_or (map (put y v x) scope) q 0 ≡ get_or (set (map y scope) p x) q 0
    each q k =
        let long = length-map scope (put y v x) in
        let long' = length-map scope y in
        get_or-map (put y v x) scope q 0 0 (omega arith) ∙ elim (cases_eq q p) [
          | inl e ↦ ap (λ (i : ℕ). put y v x (get_or scope i 0)) e ∙ put_here y v x ∙ sym (get_or-set_same (map y scope) p x 0 (omega arith)) ∙ ap (λ (i : ℕ). get_or (set (map y scope) p x) i 0) (sym e)
          | inr d ↦ put_away y v x (get_or scope q 0) (λ e. d (distinct q (omega arith) e)) ∙ sym (get_or-map y scope q 0 0 (omega arith)) ∙ sym (get_or-set_other (map y scope) p q x 0 d)
        ]
