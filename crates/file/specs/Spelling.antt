-- Which bytes spell a problem. Assumes nothing.
use Rattle.std.specs.Prelude.{◌≡◌, ℕ, ◌+◌, ◌-◌, ◌*◌, ◌<◌, true, List, ◌∷◌, ◌++◌, map, length, replicate, slice_index}
use Rattle.scale.specs.Rules.{Rules}
use Rattle.theory.specs.Problem.{Problem, Function, variables, functions, scope_of, words_in_order}
use Rattle.file.specs.Bytes.{half, word, part}
use Rattle.file.specs.Places.{domains_place, scopes_place, entries_place, file_length}

-- a scope in five bytes: its size, its variables by place, and 255 at each unused place
abbrev pub scope_bytes : List ℕ → List ℕ
scope_bytes scope = length scope ∷ (scope ++ replicate (4 - length scope) 255)

-- how long the file of a problem is
abbrev pub file_size : Problem → ℕ
file_size P = file_length (variables P) (functions P) (length (words_in_order P))

pub record Spells (code : ℕ) (bs : List ℕ) (P : Problem) : Type 0 where
  pub bytes : (k : ℕ) → slice_index bs k < 256
  -- eight numbers of 16 bits
  pub scale : half bs 0 ≡ code
  pub variable_count : half bs 2 ≡ variables P
  pub function_count : half bs 4 ≡ functions P
  pub entry_count : half bs 6 ≡ length (words_in_order P)
  pub domains_offset : half bs 8 ≡ domains_place
  pub scopes_offset : half bs 10 ≡ scopes_place (variables P)
  pub entries_offset : half bs 12 ≡ entries_place (variables P) (functions P)
  pub length_told : half bs 14 ≡ file_size P
  pub long : length bs ≡ file_size P
  -- the sections
  pub domains : part bs domains_place (variables P) ≡ P.domains
  pub scopes : (f : ℕ) → f < functions P → part bs (scopes_place (variables P) + 5 * f) 5 ≡ scope_bytes (scope_of P f)
  pub words : (k : ℕ) → k < length (words_in_order P) → word bs (entries_place (variables P) (functions P) + 4 * k) ≡ slice_index (words_in_order P) k

-- Two problems agree if they have the same domains, scopes and words.
pub record Agree (P Q : Problem) : Type 0 where
  pub domains : P.domains ≡ Q.domains
  pub scopes : map (λ (f : Function). f.scope) P.tables ≡ map (λ (f : Function). f.scope) Q.tables
  pub words : words_in_order P ≡ words_in_order Q

-- all words of a problem are entries of the scale
abbrev pub AllEntries : {E : Type 0} → Rules E → Problem → Type 0
AllEntries R P = (k : ℕ) → k < length (words_in_order P) → R.entry (slice_index (words_in_order P) k) ≡ true
