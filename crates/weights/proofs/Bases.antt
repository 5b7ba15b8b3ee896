-- Where the entries of a table stand as one value varies: within the table. Assumes nothing.
use Rattle.std.proofs.Common.{◌≡◌, ℕ, zero, suc, ◌+◌, ◌*◌, ◌/◌, ◌%◌, ◌<◌, ◌≤◌, sym, ap, ◌∙◌, subst, ap₂, mod-lt, div-lt_iff_lt-mul, add-mul, one-mul, mul-zero, mul_comm, div-add-mod', zero-mul, mul_assoc, mul_right_comm, arith}
use native.Mathlib.Nat.{div-eq_of_eq-mul_left}
use Rattle.std.proofs.Math.Nat.{mul-mod_left, mul-le-mul_right, le-mul_of_pos_right, lt_of_mul-lt-mul_right}
use lib.Arith.{digits_lt, digits_div, digits_mod}
use Rattle.weights.specs.Swings.{base}

-- the position by the earlier places' combination q, the value x and the later places' combination r
pub from_base : (values stride q x r : ℕ) → q * values * stride + r + x * stride ≡ (q * values + x) * stride + r
from_base values stride q x r = omega (arith, add-mul (q * values) x stride)

-- a position has one combination before and one after
pub same_digits : (values stride q x r q' x' r' : ℕ) → x < values → x' < values → r < stride → r' < stride →
    (q * values + x) * stride + r ≡ (q' * values + x') * stride + r' → (q ≡ q') × (r ≡ r')
same_digits values stride q x r q' x' r' h h' low low' e =
    let row : q * values + x ≡ q' * values + x' = sym (digits_div (q * values + x) low) ∙ ap (λ (n : ℕ). n / stride) e ∙ digits_div (q' * values + x') low' in (
      sym (digits_div q h) ∙ ap (λ (n : ℕ). n / values) row ∙ digits_div q' h',
      sym (digits_mod (q * values + x) low) ∙ ap (λ (n : ℕ). n % stride) e ∙ digits_mod (q' * values + x') low',
    )

-- where the lines of block b begin: one behind the other
pub base_block : (values stride b k : ℕ) → k < stride → base values stride (b * stride + k) ≡ b * values * stride + k
base_block values stride b k low = ap₂ (λ (q r : ℕ). q * values * stride + r) (digits_div b low) (digits_mod b low)

-- a line of a block lies within it
pub in_block : (values stride k x : ℕ) → k < stride → x < values → k + x * stride < values * stride
in_block values stride k x low h = let there : x * stride + k < values * stride = digits_lt h low in omega arith

-- a block that begins within whole blocks ends within them, where the next one begins
pub next_block : (values stride earlier b n : ℕ) → n ≡ earlier * values * stride → b * values * stride < n →
    (b * values * stride + values * stride ≡ (b + 1) * values * stride) × ((b + 1) * values * stride ≤ n)
next_block values stride earlier b n whole inside =
    let block = values * stride in
    let here = mul_assoc b values stride in
    let next = mul_assoc (b + 1) values stride in
    let all = mul_assoc earlier values stride in
    let lower : b * block < earlier * block = omega arith in
    let few : b < earlier = lt_of_mul-lt-mul_right block lower in
    let fits : (b + 1) * block ≤ earlier * block = mul-le-mul_right block (omega arith) in
    (omega (arith, add-mul b 1 block, one-mul block), omega arith)

some_first : (a b : ℕ) → 0 < a * b → 0 < a
some_first zero b h = omega (arith, zero-mul b)
some_first (suc a) b h = omega arith

some_last : (a b : ℕ) → 0 < a * b → 0 < b
some_last a zero h = omega (arith, mul-zero a)
some_last a (suc b) h = omega arith

-- a factor of some number is no more than that number
pub factor : (a b n : ℕ) → a * b ≡ n → 0 < n → a ≤ n
factor a b n e some = let other : 0 < b = some_last a b (omega arith) in omega (arith, le-mul_of_pos_right a other)

-- a table has whole lines: a multiple of values times stride
pub multiple : (values stride earlier n : ℕ) → n ≡ earlier * values * stride → n % (values * stride) ≡ 0
multiple values stride earlier n e = ap (λ (m : ℕ). m % (values * stride)) (e ∙ mul_assoc earlier values stride) ∙ mul-mod_left earlier (values * stride)

pub lines : (values stride n : ℕ) → n % (values * stride) ≡ 0 → n ≡ n / (values * stride) * values * stride
lines values stride n none = omega (arith, div-add-mod' n (values * stride), none, mul_assoc (n / (values * stride)) values stride)

module _ (values stride earlier n : ℕ) (whole : n ≡ earlier * values * stride) (some : 0 < n) where
  -- the values of the place last
  regrouped : n ≡ earlier * stride * values
  regrouped = whole ∙ mul_right_comm earlier values stride

  pub some_stride : 0 < stride
  some_stride = some_last (earlier * values) stride (subst (λ (m : ℕ). 0 < m) whole some)

  pub short_stride : stride ≤ n
  short_stride = factor stride (earlier * values) n (mul_comm stride (earlier * values) ∙ sym whole) some

  pub some_value : 0 < values
  some_value = some_last (earlier * stride) values (subst (λ (m : ℕ). 0 < m) regrouped some)

  pub count : n / values ≡ earlier * stride
  count = div-eq_of_eq-mul_left some_value regrouped

  pub some_count : 0 < n / values
  some_count = subst (λ (m : ℕ). 0 < m) (sym count) (some_first (earlier * stride) values (subst (λ (m : ℕ). 0 < m) regrouped some))

  module _ (k : ℕ) (below : k < n / values) where
    pub inside : (x : ℕ) → x < values → base values stride k + x * stride < n
    inside x h =
        let early : k / stride < earlier = (div-lt_iff_lt-mul some_stride).1 (subst (λ (m : ℕ). k < m) count below) in
        let late : k % stride < stride = mod-lt k some_stride in
        let row : k / stride * values + x < earlier * values = digits_lt early h in
        let there : (k / stride * values + x) * stride + k % stride < earlier * values * stride = digits_lt row late in
        omega (arith, whole, from_base values stride (k / stride) x (k % stride))
