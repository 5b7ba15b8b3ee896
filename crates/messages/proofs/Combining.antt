-- Combinations and their positions. Assumes nothing.
use Rattle.std.proofs.Common.{◌≡◌, ℕ, zero, suc, ◌+◌, ◌*◌, ◌/◌, ◌%◌, ◌^◌, ◌<◌, ◌≤◌, Bool, cond, List, [], ◌∷◌, length, get_or, take, sym, refl, ap, ◌∙◌, ap₂, mod-lt, div-lt_iff_lt-mul, mul-le-mul, div-add-mod', zero-mul, arith}
use native.Mathlib.Nat.{pow-le-pow_right, pow-succ'}
use lib.Arith.{digits_div, digits_mod}
use Rattle.std.proofs.lemmas.List.{length-take-le, take_more}
use Rattle.std.proofs.lemmas.Bool.{cond_both, cond-true}
use Rattle.theory.specs.Problem.{product, index}
use Rattle.theory.proofs.Index.{Within, positive, index_below, index_one, index_push}
use Rattle.messages.specs.Combinations.{combination, cleared}

pub combination_within : (sizes : List ℕ) (i : ℕ) → i < product sizes → Within sizes (combination sizes i)
combination_within [] i h = tt
combination_within (s ∷ sizes) i h =
    let some = positive s (product sizes) i h in
    ((div-lt_iff_lt-mul some).1 h, combination_within sizes (i % product sizes) (mod-lt i some))

pub index_combination : (sizes : List ℕ) (i : ℕ) → i < product sizes → index sizes (combination sizes i) ≡ i
index_combination [] i h = omega arith
index_combination (s ∷ sizes) i h =
    let k = product sizes in
    let some = positive s k i h in
    ap (λ (n : ℕ). i / k * k + n) (index_combination sizes (i % k) (mod-lt i some)) ∙ div-add-mod' i k

pub combination_of : (sizes xs : List ℕ) → Within sizes xs → combination sizes (index sizes xs) ≡ xs
combination_of sizes xs w =
    let low = index_below sizes xs w in
    index_one sizes (combination sizes (index sizes xs)) xs (combination_within sizes (index sizes xs) low) w (index_combination sizes (index sizes xs) low)

pub within_length : (sizes xs : List ℕ) → Within sizes xs → length xs ≡ length sizes
within_length [] [] w = refl
within_length [] (x ∷ xs) w = absurd w
within_length (s ∷ sizes) [] w = absurd w
within_length (s ∷ sizes) (x ∷ xs) w = ap suc (within_length sizes xs w.1)

pub within_at : (sizes xs : List ℕ) → Within sizes xs → (p : ℕ) → p < length sizes → get_or xs p 0 < get_or sizes p 0
within_at [] xs w p h = absurd (omega arith)
within_at (s ∷ sizes) [] w p h = absurd w
within_at (s ∷ sizes) (x ∷ xs) w zero h = w.0
within_at (s ∷ sizes) (x ∷ xs) w (suc p) h = within_at sizes xs w.1 p (omega arith)

pub within_each : (sizes xs : List ℕ) → length xs ≡ length sizes → ((p : ℕ) → p < length sizes → get_or xs p 0 < get_or sizes p 0) → Within sizes xs
within_each [] [] e each = tt
within_each [] (x ∷ xs) e each = absurd (omega arith)
within_each (s ∷ sizes) [] e each = absurd (omega arith)
within_each (s ∷ sizes) (x ∷ xs) e each = (each 0 (omega arith), within_each sizes xs (omega arith) (λ p h. each (suc p) (omega arith)))

pub within_take : (sizes xs : List ℕ) → Within sizes xs → (p : ℕ) → Within (take p sizes) (take p xs)
within_take sizes xs w zero = tt
within_take [] [] w (suc p) = tt
within_take [] (x ∷ xs) w (suc p) = absurd w
within_take (s ∷ sizes) [] w (suc p) = absurd w
within_take (s ∷ sizes) (x ∷ xs) w (suc p) = (w.0, within_take sizes xs w.1 p)

-- One place less: the position of the first p + 1 values has the last of them as its remainder, and the position of the others as its quotient.
module _ (sizes xs : List ℕ) (w : Within sizes xs) (p : ℕ) (h : p < length sizes) where
  grown : index (take (p + 1) sizes) (take (p + 1) xs) ≡ index (take p sizes) (take p xs) * get_or sizes p 0 + get_or xs p 0
  grown =
      let long = within_length sizes xs w in
      ap₂ index (take_more sizes p 0 h) (take_more xs p 0 (omega arith))
      ∙ index_push (take p sizes) (take p xs) (get_or sizes p 0) (get_or xs p 0) (length-take-le p sizes (omega arith) ∙ sym (length-take-le p xs (omega arith)))

  pub last_value : index (take (p + 1) sizes) (take (p + 1) xs) % get_or sizes p 0 ≡ get_or xs p 0
  last_value = ap (λ (n : ℕ). n % get_or sizes p 0) grown ∙ digits_mod (index (take p sizes) (take p xs)) (within_at sizes xs w p h)

  pub rest_value : index (take (p + 1) sizes) (take (p + 1) xs) / get_or sizes p 0 ≡ index (take p sizes) (take p xs)
  rest_value = ap (λ (n : ℕ). n / get_or sizes p 0) grown ∙ digits_div (index (take p sizes) (take p xs)) (within_at sizes xs w p h)

  pub one_more : index (take p sizes) (take p xs) * get_or sizes p 0 + get_or xs p 0 ≡ index (take (p + 1) sizes) (take (p + 1) xs)
  one_more = sym grown

-- the product of at most four sizes of at most 16
product_few : (sizes : List ℕ) → ((p : ℕ) → p < length sizes → get_or sizes p 0 ≤ 16) → product sizes ≤ 16 ^ length sizes
product_few [] few = omega arith
product_few (s ∷ sizes) few = rw (pow-succ' 16 (length sizes)) (mul-le-mul (few 0 (omega arith)) (product_few sizes (λ p h. few (suc p) (omega arith))))

pub product_small : (sizes : List ℕ) → length sizes ≤ 4 → ((p : ℕ) → p < length sizes → get_or sizes p 0 ≤ 16) → product sizes ≤ 65536
product_small sizes four few =
    let all : 16 ^ length sizes ≤ 16 ^ 4 = pow-le-pow_right (omega arith) four in
    omega (arith, product_few sizes few)

pub length_cleared : (test : ℕ → Bool) (xs : List ℕ) → length (cleared test xs) ≡ length xs
length_cleared test [] = refl
length_cleared test (x ∷ xs) = ap suc (length_cleared (λ p. test (suc p)) xs)

pub cleared_at : (test : ℕ → Bool) (xs : List ℕ) (p : ℕ) → p < length xs → get_or (cleared test xs) p 0 ≡ cond (test p) (get_or xs p 0) 0
cleared_at test [] p h = absurd (omega arith)
cleared_at test (x ∷ xs) zero h = refl
cleared_at test (x ∷ xs) (suc p) h = cleared_at (λ p. test (suc p)) xs p (omega arith)

pub cleared_same : (test test' : ℕ → Bool) (xs : List ℕ) → ((p : ℕ) → p < length xs → test p ≡ test' p) → cleared test xs ≡ cleared test' xs
cleared_same test test' [] same = refl
cleared_same test test' (x ∷ xs) same =
    ap₂ ◌∷◌ (ap (λ (b : Bool). cond b x 0) (same 0 (omega arith))) (cleared_same (λ p. test (suc p)) (λ p. test' (suc p)) xs (λ p h. same (suc p) (omega arith)))

pub cleared_within : (test : ℕ → Bool) (sizes xs : List ℕ) → Within sizes xs → Within sizes (cleared test xs)
cleared_within test [] [] w = tt
cleared_within test [] (x ∷ xs) w = absurd w
cleared_within test (s ∷ sizes) [] w = absurd w
cleared_within test (s ∷ sizes) (x ∷ xs) w =
    (cond_both (test 0) x 0 (λ n. n < s) (λ e. w.0) (λ e. omega (arith, w.0)), cleared_within (λ p. test (suc p)) sizes xs w.1)

cleared_twice : (test : ℕ → Bool) (xs : List ℕ) → cleared test (cleared test xs) ≡ cleared test xs
cleared_twice test [] = refl
cleared_twice test (x ∷ xs) = ap₂ ◌∷◌ (cond_both (test 0) x 0 (λ n. cond (test 0) n 0 ≡ n) (λ e. cond-true (test 0) x 0 e) (λ e. cond_both (test 0) 0 0 (λ n. n ≡ 0) (λ d. refl) (λ d. refl))) (cleared_twice (λ p. test (suc p)) xs)

cleared_low : (test : ℕ → Bool) (sizes xs : List ℕ) → Within sizes xs → index sizes (cleared test xs) ≤ index sizes xs
cleared_low test [] [] w = omega arith
cleared_low test [] (x ∷ xs) w = absurd w
cleared_low test (s ∷ sizes) [] w = absurd w
cleared_low test (s ∷ sizes) (x ∷ xs) w =
    let rest = cleared_low (λ p. test (suc p)) sizes xs w.1 in
    cond_both (test 0) x 0 (λ n. n * product sizes + index sizes (cleared (λ p. test (suc p)) xs) ≤ x * product sizes + index sizes xs) (λ e. omega arith) (λ e. omega (arith, zero-mul (product sizes)))

-- An index with 0 at the places that fail the test.
module _ (test : ℕ → Bool) (sizes : List ℕ) (i : ℕ) (h : i < product sizes) where
  cleared_fits : Within sizes (cleared test (combination sizes i))
  cleared_fits = cleared_within test sizes (combination sizes i) (combination_within sizes i h)

  pub key_below : index sizes (cleared test (combination sizes i)) < product sizes
  key_below = index_below sizes (cleared test (combination sizes i)) cleared_fits

  pub key_low : index sizes (cleared test (combination sizes i)) ≤ i
  key_low = omega (arith, cleared_low test sizes (combination sizes i) (combination_within sizes i h), index_combination sizes i h)

  pub key_twice : index sizes (cleared test (combination sizes (index sizes (cleared test (combination sizes i))))) ≡ index sizes (cleared test (combination sizes i))
  key_twice = ap (index sizes) (ap (cleared test) (combination_of sizes (cleared test (combination sizes i)) cleared_fits) ∙ cleared_twice test (combination sizes i))
