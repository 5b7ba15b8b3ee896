-- A problem is spelled by one file, and a file spells one problem. Assumes nothing.
use Rattle.std.proofs.Common.{◌≡◌, ℕ, zero, suc, ◌+◌, ◌-◌, ◌*◌, ◌/◌, ◌%◌, ◌<◌, ◌≤◌, List, [], ◌++◌, length, get_or, take, replicate, sym, refl, ap, ◌∙◌, subst, ap₂, ⊎_elim, add-zero, arith}
use Rattle.std.proofs.lemmas.List.{ext_get_or, take_at}
use Rattle.std.proofs.lemmas.Bool.{cases_lt}
use Rattle.theory.specs.Problem.{Problem, variables, functions, scope_of, words_in_order}
use Rattle.file.specs.Bytes.{half, word, part}
use Rattle.file.specs.Places.{scopes_place, entries_place}
use Rattle.file.specs.Spelling.{Spells, scope_bytes}
use Rattle.file.proofs.Contents.{scopes_in, scopes_length, scope_at}
use Rattle.file.proofs.Parts.{part_at}
use Rattle.file.proofs.Theorems.{OneSpelling, OneProblem}

-- equal parts have equal bytes
part_byte : (bs cs : List ℕ) (k n p : ℕ) → p < n → part bs k n ≡ part cs k n → get_or bs (k + p) 0 ≡ get_or cs (k + p) 0
part_byte bs cs k n p h same = sym (part_at bs k n p (k + p) h refl) ∙ ap (λ (xs : List ℕ). get_or xs p 0) same ∙ part_at cs k n p (k + p) h refl

module _ (bs cs : List ℕ) (low : (k : ℕ) → (get_or bs k 0 < 256) × (get_or cs k 0 < 256)) where
  -- equal 16-bit numbers have equal bytes
  half_byte : (k p : ℕ) → p < 2 → half bs k ≡ half cs k → get_or bs (k + p) 0 ≡ get_or cs (k + p) 0
  half_byte k zero h same = rw add-zero (omega arith)
  half_byte k (suc zero) h same = omega arith
  half_byte k (suc (suc p)) h same = absurd (omega arith)

  -- equal words have equal bytes
  word_byte : (k p : ℕ) → p < 4 → word bs k ≡ word cs k → get_or bs (k + p) 0 ≡ get_or cs (k + p) 0
  word_byte k zero h same = rw add-zero (omega arith)
  word_byte k (suc zero) h same = omega arith
  word_byte k (suc (suc zero)) h same = omega arith
  word_byte k (suc (suc (suc zero))) h same = omega arith
  word_byte k (suc (suc (suc (suc p)))) h same = absurd (omega arith)

-- two files of one problem
module _ (code : ℕ) (P : Problem) (bs cs : List ℕ) (s : Spells code bs P) (t : Spells code cs P) where
  -- the eight numbers of the header are the same
  header_half : (j : ℕ) → j < 8 → half bs (2 * j) ≡ half cs (2 * j)
  header_half zero h = s.scale ∙ sym t.scale
  header_half (suc zero) h = s.variable_count ∙ sym t.variable_count
  header_half (suc (suc zero)) h = s.function_count ∙ sym t.function_count
  header_half (suc (suc (suc zero))) h = s.entry_count ∙ sym t.entry_count
  header_half (suc (suc (suc (suc zero)))) h = s.domains_offset ∙ sym t.domains_offset
  header_half (suc (suc (suc (suc (suc zero))))) h = s.scopes_offset ∙ sym t.scopes_offset
  header_half (suc (suc (suc (suc (suc (suc zero)))))) h = s.entries_offset ∙ sym t.entries_offset
  header_half (suc (suc (suc (suc (suc (suc (suc zero))))))) h = s.length_told ∙ sym t.length_told
  header_half (suc (suc (suc (suc (suc (suc (suc (suc j)))))))) h = absurd (omega arith)

  -- all values are bytes
  low : (k : ℕ) → (get_or bs k 0 < 256) × (get_or cs k 0 < 256)
  low k = (s.bytes k, t.bytes k)

  -- the files have the same byte at a place
  abbrev Same : ℕ → Type 0
  Same k = get_or bs k 0 ≡ get_or cs k 0

  -- the same bytes in the header, the domains, the scopes and the words, and so at each place
  header_byte : (k : ℕ) → k < 16 → Same k
  header_byte k h = subst Same (omega arith) (half_byte bs cs low (2 * (k / 2)) (k % 2) (omega arith) (header_half (k / 2) (omega arith)))

  domain_byte : (v : ℕ) → v < variables P → Same (16 + v)
  domain_byte v h = part_byte bs cs 16 (variables P) v h (s.domains ∙ sym t.domains)

  scope_byte : (f p : ℕ) → f < functions P → p < 5 → Same (scopes_place (variables P) + 5 * f + p)
  scope_byte f p h few = part_byte bs cs (scopes_place (variables P) + 5 * f) 5 p few (s.scopes f h ∙ sym (t.scopes f h))

  entry_byte : (m p : ℕ) → m < length (words_in_order P) → p < 4 → Same (entries_place (variables P) (functions P) + 4 * m + p)
  entry_byte m p h few = word_byte bs cs low (entries_place (variables P) (functions P) + 4 * m) p few (s.words m h ∙ sym (t.words m h))

  every_byte : (k : ℕ) → k < length bs → Same k
  every_byte k h =
      let long = s.long in
      ⊎_elim (header_byte k)
      (λ (past : 16 ≤ k).
      ⊎_elim (λ (in-domains : k < scopes_place (variables P)). subst Same (omega arith) (domain_byte (k - 16) (omega arith)))
      (λ (after : scopes_place (variables P) ≤ k).
      ⊎_elim
      (λ (in-scopes : k < entries_place (variables P) (functions P)).
      let r = k - scopes_place (variables P) in
      subst Same (omega arith) (scope_byte (r / 5) (r % 5) (omega arith) (omega arith)))
      (λ (beyond : entries_place (variables P) (functions P) ≤ k).
      let r = k - entries_place (variables P) (functions P) in
      subst Same (omega arith) (entry_byte (r / 4) (r % 4) (omega arith) (omega arith)))
      (cases_lt k (entries_place (variables P) (functions P))))
      (cases_lt k (scopes_place (variables P))))
      (cases_lt k 16)

  same_file : bs ≡ cs
  same_file = ext_get_or 0 bs cs (s.long ∙ sym t.long) every_byte

pub one_spelling : OneSpelling
one_spelling = same_file

-- two scopes with the same five bytes are the same
same_scope : (xs ys : List ℕ) → scope_bytes xs ≡ scope_bytes ys → xs ≡ ys
same_scope xs ys same =
    let long : length xs ≡ length ys = cc in
    let rest : xs ++ replicate (4 - length xs) 255 ≡ ys ++ replicate (4 - length ys) 255 = cc in
    sym (take_at xs (replicate (4 - length xs) 255) (length ys) long) ∙ ap (take (length ys)) rest ∙ take_at ys (replicate (4 - length ys) 255) (length ys) refl

-- two problems of one file
module _ (code : ℕ) (bs : List ℕ) (P Q : Problem) (s : Spells code bs P) (t : Spells code bs Q) where
  -- they have the same numbers of variables, functions and words
  as_many_variables : variables P ≡ variables Q
  as_many_variables = sym s.variable_count ∙ t.variable_count

  as_many_functions : functions P ≡ functions Q
  as_many_functions = sym s.function_count ∙ t.function_count

  as_many_words : length (words_in_order P) ≡ length (words_in_order Q)
  as_many_words = sym s.entry_count ∙ t.entry_count

  -- the same scopes, words and domains
  scope_same : (f : ℕ) → f < functions P → scope_of P f ≡ scope_of Q f
  scope_same f h =
      same_scope (scope_of P f) (scope_of Q f)
      (sym (s.scopes f h) ∙ ap (λ (v : ℕ). part bs (scopes_place v + 5 * f) 5) as_many_variables ∙ t.scopes f (let many = as_many_functions in omega arith))

  scopes_same : scopes_in P ≡ scopes_in Q
  scopes_same =
      let many = as_many_functions in
      let of-P = scopes_length P in
      let of-Q = scopes_length Q in
      ext_get_or [] (scopes_in P) (scopes_in Q) (omega arith)
      (λ f h. scope_at P f (omega arith) ∙ scope_same f (omega arith) ∙ sym (scope_at Q f (omega arith)))

  words_same : words_in_order P ≡ words_in_order Q
  words_same =
      let many = as_many_words in
      ext_get_or 0 (words_in_order P) (words_in_order Q) many
      (λ m h. sym (s.words m h) ∙ ap₂ (λ (v n : ℕ). word bs (entries_place v n + 4 * m)) as_many_variables as_many_functions ∙ t.words m (omega arith))

  domains_same : P.domains ≡ Q.domains
  domains_same = sym s.domains ∙ ap (part bs 16) as_many_variables ∙ t.domains

pub one_problem : OneProblem
one_problem code bs P Q s t = record { domains = domains_same code bs P Q s t; scopes = scopes_same code bs P Q s t; words = words_same code bs P Q s t }
