-- The combinations of values within sizes, and their positions: one for each number below the product of the sizes. Assumes nothing.
use Rattle.std.proofs.Common.{◌≡◌, ℕ, zero, suc, ◌+◌, ◌*◌, ◌/◌, ◌%◌, ◌<◌, List, [], ◌∷◌, ◌++◌, length, sym, refl, ap, ◌∙◌, ap₂, mod-lt, mul_assoc, div-lt_iff_lt-mul, add-mul, one-mul, mul-zero, div-add-mod', mul-one, arith}
use lib.Arith.{digits_lt, digits_div, digits_mod}
use Rattle.theory.specs.Problem.{product, index}

-- each value is below its size, and there are as many values as sizes
abbrev pub Within : List ℕ → List ℕ → Type 0
Within [] [] = Unit {0}
Within [] (x ∷ xs) = ⊥
Within (s ∷ sizes) [] = ⊥
Within (s ∷ sizes) (x ∷ xs) = (x < s) × Within sizes xs

pub index_below : (sizes xs : List ℕ) → Within sizes xs → index sizes xs < product sizes
index_below [] [] w = omega arith
index_below [] (x ∷ xs) w = absurd w
index_below (s ∷ sizes) [] w = absurd w
index_below (s ∷ sizes) (x ∷ xs) w = digits_lt w.0 (index_below sizes xs w.1)

pub index_one : (sizes xs ys : List ℕ) → Within sizes xs → Within sizes ys → index sizes xs ≡ index sizes ys → xs ≡ ys
index_one [] [] [] w v e = refl
index_one [] [] (y ∷ ys) w v e = absurd v
index_one [] (x ∷ xs) ys w v e = absurd w
index_one (s ∷ sizes) [] ys w v e = absurd w
index_one (s ∷ sizes) (x ∷ xs) [] w v e = absurd v
index_one (s ∷ sizes) (x ∷ xs) (y ∷ ys) w v e =
    let k = product sizes in
    let low = index_below sizes xs w.1 in
    let low' = index_below sizes ys v.1 in
    ap₂ ◌∷◌
    (sym (digits_div x low) ∙ ap (λ (n : ℕ). n / k) e ∙ digits_div y low')
    (index_one sizes xs ys w.1 v.1 (sym (digits_mod x low) ∙ ap (λ (n : ℕ). n % k) e ∙ digits_mod y low'))

pub positive : (s k i : ℕ) → i < s * k → 0 < k
positive s zero i h = omega (arith, mul-zero s)
positive s (suc k) i h = omega arith

pub index_each : (sizes : List ℕ) (i : ℕ) → i < product sizes → (xs : List ℕ) × Within sizes xs × (index sizes xs ≡ i)
index_each [] i h = ([], tt, omega arith)
index_each (s ∷ sizes) i h =
    let k = product sizes in
    let some = positive s k i h in
    let (xs, w, e) = index_each sizes (i % k) (mod-lt i some) in
    (i / k ∷ xs, ((div-lt_iff_lt-mul some).1 h, w), ap (λ (n : ℕ). i / k * k + n) e ∙ div-add-mod' i k)

-- one place more
pub product_push : (sizes : List ℕ) (s : ℕ) → product (sizes ++ (s ∷ [])) ≡ product sizes * s
product_push [] s = mul-one s ∙ sym (one-mul s)
product_push (t ∷ sizes) s = ap (λ (n : ℕ). t * n) (product_push sizes s) ∙ sym (mul_assoc t (product sizes) s)

pub index_push : (sizes xs : List ℕ) (s x : ℕ) → length sizes ≡ length xs → index (sizes ++ (s ∷ [])) (xs ++ (x ∷ [])) ≡ index sizes xs * s + x
index_push [] [] s x e = omega arith
index_push [] (y ∷ xs) s x e = absurd (omega arith)
index_push (t ∷ sizes) [] s x e = absurd (omega arith)
index_push (t ∷ sizes) (y ∷ xs) s x e =
    let step = index_push sizes xs s x (omega arith) in
    let whole : y * product (sizes ++ (s ∷ [])) ≡ y * product sizes * s = ap (λ (n : ℕ). y * n) (product_push sizes s) ∙ sym (mul_assoc y (product sizes) s) in
    omega (arith, add-mul (y * product sizes) (index sizes xs) s)
