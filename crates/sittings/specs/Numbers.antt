-- The numbers and the words of a table that texts stand for. Assumes nothing.
use Rattle.std.specs.Prelude.{◌≡◌, ℕ, ◌+◌, ◌*◌, ◌^◌, ◌<◌, ◌==◌, Bool, ◌⊎◌, List, map, length, pos, negsuc, ◌≤ℤ◌}
use Rattle.std.specs.List.{AllByRecursion, position_or_len, before_first, after_first}
use Rattle.std.specs.Int.{w16, w32, cast_unsigned}
use Rattle.std.specs.Str.Parse.{IsNumeral, digits_value, without_leading_plus, without_leading_sign, signed_digits_value}

-- the text is digits, perhaps after a +, of a number below 2 to the 64th
abbrev pub IsNumber : List ℕ → Type 0
IsNumber text = IsNumeral 10 (without_leading_plus text) × (digits_value 10 (without_leading_plus text) < 2 ^ 64)

-- its number
abbrev pub number : List ℕ → ℕ
number text = digits_value 10 (without_leading_plus text)

-- the text is digits, perhaps after a + or a -, of a number of 16 bits, signed or not
abbrev pub IsHalf : List ℕ → Type 0
IsHalf text = IsNumeral 10 (without_leading_sign text) × (negsuc 32767 ≤ℤ signed_digits_value 10 text) × (signed_digits_value 10 text ≤ℤ pos 65535)

-- the 16 bits
abbrev pub half : List ℕ → ℕ
half text = cast_unsigned w16 (signed_digits_value 10 text)

-- the same of 32 bits
abbrev pub IsWhole : List ℕ → Type 0
IsWhole text = IsNumeral 10 (without_leading_sign text) × (negsuc 2147483647 ≤ℤ signed_digits_value 10 text) × (signed_digits_value 10 text ≤ℤ pos 4294967295)

abbrev pub whole : List ℕ → ℕ
whole text = cast_unsigned w32 (signed_digits_value 10 text)

-- the text is a word: two halves with a comma between, or, without a comma, one whole number; w is its bits
abbrev pub is_comma : ℕ → Bool
is_comma b = b == 44

abbrev pub first : List ℕ → List ℕ
first text = before_first is_comma text

abbrev pub second : List ℕ → List ℕ
second text = after_first is_comma text

abbrev pub HasComma : List ℕ → Type 0
HasComma text = position_or_len is_comma text < length text

abbrev pub IsWord : List ℕ → ℕ → Type 0
IsWord text w =
    (HasComma text × IsHalf (first text) × IsHalf (second text) × (w ≡ half (first text) + half (second text) * 65536)) ⊎
    (¬ (HasComma text) × IsWhole text × (w ≡ whole text))

-- each text is a number, and ns are these
abbrev pub AreNumbers : List (List ℕ) → List ℕ → Type 0
AreNumbers texts ns = AllByRecursion IsNumber texts × (ns ≡ map number texts)
