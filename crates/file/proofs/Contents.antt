-- What the sections of a file that spells a problem hold. Assumes nothing.
use Rattle.std.proofs.Common.{◌≡◌, ℕ, ◌+◌, ◌-◌, ◌*◌, ◌<◌, ◌≤◌, List, [], ◌∷◌, map, length, get_or, take, replicate, sum_by, sym, refl, ap, ◌∙◌, ap₂, one-add, arith}
use Rattle.std.proofs.lemmas.List.FromFn.{fill_by_all}
use Rattle.std.proofs.lemmas.List.{get_or_append_left, get_or-append_right, get_or-map, get_or-replicate, get_or-take, length-append, length-map, length-take-le}
use Rattle.std.specs.List.{flat_map}
use Rattle.theory.specs.Problem.{Problem, Function, functions, scope_of, words_in_order}
use Rattle.theory.specs.Sizes.{combinations, all_words}
use Rattle.file.specs.Bytes.{half, word, part}
use Rattle.file.specs.Places.{domains_place, scopes_place, entries_place}
use Rattle.file.specs.Spelling.{Spells, scope_bytes}
use Rattle.file.specs.Tests.{scope_told, record_at, scopes_told, words_told, domains_part, scopes_part, entries_part}
use Rattle.file.proofs.Parts.{part_part, word_part}

-- the bytes of a scope tell it
pub bytes_tell : (scope : List ℕ) → scope_told (scope_bytes scope) ≡ scope
bytes_tell scope =
    sym (fill_by_all (λ (p : ℕ). get_or (scope_bytes scope) (1 + p) 0) scope (length scope) 0 refl
    (λ p h. rw (one-add p) (sym (get_or_append_left scope (replicate (4 - length scope) 255) 0 p h))))

-- and each unused place is 255
pub bytes_unused : (scope : List ℕ) (p : ℕ) → length scope ≤ p → p < 4 → get_or (scope_bytes scope) (1 + p) 0 ≡ 255
bytes_unused scope p low high =
    rw (one-add p) (get_or-append_right scope (replicate (4 - length scope) 255) (length scope) p 0 refl low
    ∙ get_or-replicate (4 - length scope) (p - length scope) 255 0 (omega arith))

-- the tables one after the other have all words
joined_length : (fs : List Function) → length (flat_map (λ (f : Function). f.words) fs) ≡ all_words fs
unfolding all_words
joined_length [] = refl
joined_length (f ∷ fs) = length-append f.words (flat_map (λ (g : Function). g.words) fs) ∙ ap (λ (n : ℕ). length f.words + n) (joined_length fs)

module _ (P : Problem) where
  -- the scopes, in the order of the functions
  abbrev pub scopes_in : List (List ℕ)
  scopes_in = map (λ (f : Function). f.scope) P.tables

  pub scopes_length : length scopes_in ≡ functions P
  scopes_length = length-map P.tables (λ (f : Function). f.scope)

  pub scope_at : (f : ℕ) → f < functions P → get_or scopes_in f [] ≡ scope_of P f
  unfolding scope_of
  scope_at f h = get_or-map (λ (g : Function). g.scope) P.tables f (record { scope = []; words = [] }) [] h

  -- how many words the first n functions have, one for each combination
  abbrev pub words_before : ℕ → ℕ
  words_before n = sum_by (combinations P.domains) (take n scopes_in)

  -- how many words there are in order
  pub words_length : length (words_in_order P) ≡ all_words P.tables
  words_length = joined_length P.tables

-- a file that spells a problem has its domains, scopes and words in the sections
module _ {code : ℕ} {P : Problem} {bs : List ℕ} (spelled : Spells code bs P) where
  pub domains_are : domains_part bs ≡ P.domains
  domains_are = ap (part bs domains_place) spelled.variable_count ∙ spelled.domains

  pub record_is : (f : ℕ) → f < functions P → record_at (scopes_part bs) f ≡ scope_bytes (scope_of P f)
  record_is f h =
      part_part bs (scopes_place (half bs 2)) (5 * half bs 4) (5 * f) 5 (omega arith) (omega arith)
      ∙ ap (λ (v : ℕ). part bs (scopes_place v + 5 * f) 5) spelled.variable_count
      ∙ spelled.scopes f h

  -- the records tell the scopes, and so the number of words
  scopes_are : (n : ℕ) → n ≤ functions P → scopes_told (scopes_part bs) n ≡ take n (scopes_in P)
  scopes_are n h =
      let long = scopes_length P in
      sym (fill_by_all (λ (f : ℕ). scope_told (record_at (scopes_part bs) f)) (take n (scopes_in P)) n [] (length-take-le n (scopes_in P) (omega arith))
      (λ f k.
      get_or-take n (scopes_in P) f [] k ∙ scope_at P f (omega arith)
      ∙ sym (bytes_tell (scope_of P f)) ∙ ap scope_told (sym (record_is f (omega arith)))))

  pub words_are : (n : ℕ) → n ≤ functions P → words_told P.domains (scopes_part bs) n ≡ words_before P n
  words_are n h = ap (sum_by (combinations P.domains)) (scopes_are n h)

  pub word_is : (k : ℕ) → k < length (words_in_order P) → word (entries_part bs) (4 * k) ≡ get_or (words_in_order P) k 0
  word_is k h =
      word_part bs (entries_place (half bs 2) (half bs 4)) (4 * half bs 6) (4 * k) (omega arith)
      ∙ ap₂ (λ (v f : ℕ). word bs (entries_place v f + 4 * k)) spelled.variable_count spelled.function_count
      ∙ spelled.words k h
