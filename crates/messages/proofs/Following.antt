-- The combination after another one, made from the last place on. Assumes nothing.
use Rattle.std.proofs.Common.{◌≡◌, ℕ, ◌+◌, ◌*◌, ◌/◌, ◌%◌, ◌<◌, ◌≤◌, List, length, get_or, set, take, sym, ap, ◌∙◌, inl, inr, ◌⊎◌, arith}
use Rattle.std.proofs.Math.Nat.{add-mul}
use Rattle.std.proofs.lemmas.List.{get_or-set_same, get_or-set_other, get_or-take}
use Rattle.std.proofs.lemmas.Bool.{cases_eq}
use lib.Arith.{digits_div, digits_mod}
use Rattle.theory.specs.Problem.{product, index}
use Rattle.theory.proofs.Index.{Within}
use Rattle.messages.specs.declared.places.Places.{Places}
use Rattle.messages.specs.Combinations.{combination}
use Rattle.messages.specs.Places.{count_in, place_in, sizes_in}
use Rattle.messages.proofs.Combining.{combination_within, within_at, one_more}
use Rattle.messages.proofs.PlaceSizes.{sizes_length, size_is}

-- a number has one last digit, and one number before it
pub digits : (A B s a b : ℕ) → a < s → b < s → A * s + a ≡ B * s + b → (A ≡ B) × (a ≡ b)
digits A B s a b la lb e = (sym (digits_div A la) ∙ ap (λ (n : ℕ). n / s) e ∙ digits_div B lb, sym (digits_mod A la) ∙ ap (λ (n : ℕ). n % s) e ∙ digits_mod B lb)

-- The values xs and ys at the place p, where by the first p + 1 places ys stands the carry behind xs.
module _ (sizes xs ys : List ℕ) (wx : Within sizes xs) (wy : Within sizes ys) (p : ℕ) (h : p < length sizes) (carry : ℕ)
    (apart : index (take (p + 1) sizes) (take (p + 1) ys) ≡ index (take (p + 1) sizes) (take (p + 1) xs) + carry) where
  stays : get_or xs p 0 + carry < get_or sizes p 0 → (index (take p sizes) (take p ys) ≡ index (take p sizes) (take p xs)) × (get_or ys p 0 ≡ get_or xs p 0 + carry)
  stays under =
      let x = one_more sizes xs wx p h in
      let y = one_more sizes ys wy p h in
      digits (index (take p sizes) (take p ys)) (index (take p sizes) (take p xs)) (get_or sizes p 0) (get_or ys p 0) (get_or xs p 0 + carry) (within_at sizes ys wy p h) under
      (omega (arith, x, y, apart))

  carries : carry ≤ 1 → get_or sizes p 0 ≤ get_or xs p 0 + carry → (index (take p sizes) (take p ys) ≡ index (take p sizes) (take p xs) + 1) × (get_or ys p 0 ≡ 0)
  carries few full =
      let x = one_more sizes xs wx p h in
      let y = one_more sizes ys wy p h in
      let low = within_at sizes xs wx p h in
      let more = add-mul (index (take p sizes) (take p xs)) 1 (get_or sizes p 0) in
      digits (index (take p sizes) (take p ys)) (index (take p sizes) (take p xs) + 1) (get_or sizes p 0) (get_or ys p 0) 0 (within_at sizes ys wy p h) (omega (arith, low))
      (omega (arith, x, y, apart, low, more))

-- By the first n places the combination after `values` stands the carry behind it, and `next` has its values at the others.
abbrev pub Ahead : Places → List ℕ → List ℕ → ℕ → ℕ → Type 0
Ahead s values next n carry =
    (i : ℕ) → i + 1 < product (sizes_in s) → take (count_in s) values ≡ combination (sizes_in s) i →
    (index (take n (sizes_in s)) (take n (combination (sizes_in s) (i + 1))) ≡ index (take n (sizes_in s)) (take n (combination (sizes_in s) i)) + carry)
    × ((q : ℕ) → n ≤ q → q < count_in s → get_or next q 0 ≡ get_or (combination (sizes_in s) (i + 1)) q 0)

-- The value at a place with the carry is the digit where it is one of its values; else the digit is 0, and there is a carry again.
abbrev pub Turn : ℕ → ℕ → ℕ → ℕ → Type 0
Turn value size digit carry = ((value < size) × (digit ≡ value) × (carry ≡ 0)) ⊎ ((size ≤ value) × (digit ≡ 0) × (carry ≡ 1))

-- One turn, at the place p: the values `next` are new behind it, and get the digit there.
module _ (s : Places) (values next : List ℕ) (p : ℕ) (below : p < count_in s) (four : length next ≡ 4) (room : p < 4) (carry : ℕ) (few : carry ≤ 1)
    (before : (q : ℕ) → q < p + 1 → get_or next q 0 ≡ get_or values q 0)
    (small : (q : ℕ) → p + 1 ≤ q → q < count_in s → get_or next q 0 < (place_in s q).size)
    (so_far : Ahead s values next (p + 1) carry)
    (digit carry' : ℕ)
    (turn : Turn (get_or next p 0 + carry) (place_in s p).size digit carry')
    (some : 1 ≤ (place_in s p).size) where
  pub turn_before : (q : ℕ) → q < p → get_or (set next p digit) q 0 ≡ get_or values q 0
  turn_before q h = get_or-set_other next p q digit 0 (λ e. omega arith) ∙ before q (omega arith)

  fits : digit < (place_in s p).size
  fits = elim turn [
    | inl (under, is, _) ↦ omega arith
    | inr (full, is, _) ↦ omega arith
  ]

  pub turn_small : (q : ℕ) → p ≤ q → q < count_in s → get_or (set next p digit) q 0 < (place_in s q).size
  turn_small q low h = elim (cases_eq q p) [
    | inl e ↦ rw e (omega (arith, get_or-set_same next p digit 0 (omega arith), fits))
    | inr d ↦ omega (arith, get_or-set_other next p q digit 0 d, small q (omega (arith, d)) h)
  ]

  pub turn_done : Ahead s values (set next p digit) p carry'
  turn_done i h same =
      let sizes = sizes_in s in
      let xs = combination sizes i in
      let ys = combination sizes (i + 1) in
      let wx = combination_within sizes i (omega arith) in
      let wy = combination_within sizes (i + 1) h in
      let inside : p < length sizes = omega (arith, sizes_length s) in
      let here = so_far i h same in
      let size = size_is s p below in
      let value : get_or next p 0 ≡ get_or xs p 0 = before p (omega arith) ∙ sym (get_or-take (count_in s) values p 0 below) ∙ ap (λ (zs : List ℕ). get_or zs p 0) same in
      let both : (index (take p sizes) (take p ys) ≡ index (take p sizes) (take p xs) + carry') × (digit ≡ get_or ys p 0) = elim turn [
        | inl (under, is, none) ↦
            let told = stays sizes xs ys wx wy p inside carry here.0 (omega (arith, size, value)) in
            (omega (arith, told.0), omega (arith, told.1, value))
        | inr (full, is, one) ↦
            let told = carries sizes xs ys wx wy p inside carry here.0 few (omega (arith, size, value)) in
            (omega (arith, told.0), omega (arith, told.1))
      ] in (
        both.0,
        λ q low under. elim (cases_eq q p) [
          | inl e ↦ rw e (get_or-set_same next p digit 0 (omega arith) ∙ both.1)
          | inr d ↦ get_or-set_other next p q digit 0 d ∙ here.1 q (omega (arith, d)) under
        ],
      )
