-- What a line says. Assumes nothing.
use Rattle.std.specs.Prelude.{◌≡◌, ℕ, ◌==◌, Bool, cond, ◌⊎◌, List, [], ◌∷◌, length, slice_index}
use Rattle.std.specs.List.{slice_split}
use Rattle.sittings.specs.declared.line.Line.{Line}
use Rattle.sittings.specs.declared.line.Line.TheVariants.{Passed, Command, Unknown}
use Rattle.sittings.specs.Spoken.{Means, MeansNothing}

-- a line that begins with a number sign
abbrev pub IsComment : List ℕ → Type 0
IsComment text = slice_index text 0 ≡ 35

abbrev pub is_blank : ℕ → Bool
is_blank b = b == 32

-- the pieces that have a byte
abbrev pub filled : List (List ℕ) → List (List ℕ)
filled [] = []
filled (piece ∷ pieces) = cond (length piece == 0) (filled pieces) (piece ∷ filled pieces)

-- what stands between blanks
abbrev pub words : List ℕ → List (List ℕ)
words text = filled (slice_split is_blank text)

-- A line is passed over if it is a comment or has no words; else its words are a name and what is given to it, which mean its command, or no command at all.
abbrev pub Parsed : List ℕ → Line → Type 0
Parsed text Passed = IsComment text ⊎ (words text ≡ [])
Parsed text (Command c) = ¬ (IsComment text) × ((name : List ℕ) × (given : List (List ℕ)) × (words text ≡ name ∷ given) × Means name given c)
Parsed text Unknown = ¬ (IsComment text) × ((name : List ℕ) × (given : List (List ℕ)) × (words text ≡ name ∷ given) × MeansNothing name given)
