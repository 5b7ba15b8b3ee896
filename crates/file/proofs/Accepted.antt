-- A file that spells a problem of entries meets no test. Assumes nothing.
use Rattle.std.proofs.Common.{◌≡◌, ℕ, zero, suc, ◌+◌, ◌*◌, ◌<◌, List, [], ◌∷◌, ◌++◌, length, get_or, sum_by, sym, ap, ◌∙◌, subst, arith}
use Rattle.std.proofs.lemmas.List.{take_all}
use Rattle.std.proofs.lemmas.List.Sums.{sum_by_more, sum_by-take-le}
use Rattle.std.proofs.lemmas.Bool.{both_ways}
use Rattle.scale.specs.Rules.{Rules}
use Rattle.theory.specs.Problem.{Problem, variables, functions, size, scope_of, at, words_in_order}
use Rattle.theory.specs.Refusals.{NoneFits, variable_tests, scope_tests, room_tests, function_tests}
use Rattle.theory.specs.Sizes.{Fits, combinations}
use Rattle.theory.proofs.Refusing.{none_both}
use Rattle.file.specs.Bytes.{half, word}
use Rattle.file.specs.Places.{domains_place, scopes_place, entries_place, file_length}
use Rattle.file.specs.Spelling.{Spells, AllEntries, scope_bytes}
use Rattle.file.specs.Tests.{each, at_place, scope_told, UnusedUsed, record_at, domains_part, scopes_part, entries_part}
use Rattle.file.specs.Tests.{count_tests, place_tests, domain_tests, record_tests, scope_tests_at, sum_tests, layout_tests, entry_tests}
use Rattle.file.proofs.Theorems.{SpelledAccepted}
use Rattle.file.proofs.Testing.{none_placed}
use Rattle.theory.proofs.WordCounts.{words_by_scope}
use Rattle.file.proofs.Contents.{bytes_tell, bytes_unused, scopes_in, scopes_length, scope_at, words_before, words_length, domains_are, record_is, words_are, word_is}

-- no test fits where none of any item does
none_all : {A : Type 0} (g : ℕ → List (A × Type 0)) (n : ℕ) → ((i : ℕ) → i < n → NoneFits (g i)) → NoneFits (each n g)
unfolding each
none_all g zero none = tt
none_all g (suc n) none = none_both (each n g) (g n) (none_all g n (λ i h. none i (omega arith))) (none n (omega arith))

-- a problem within the sizes meets no test of a variable or of a function
module _ (P : Problem) (fits : Fits P) where
  variable_none : (v : ℕ) → v < variables P → NoneFits (variable_tests v (get_or P.domains v 0))
  unfolding size
  variable_none v h =
      let low = fits.sound.nonempty v h in
      let high = fits.small_domains v h in
      (λ out. omega arith, (λ full. omega arith, tt))

  scope_none : (f : ℕ) → f < functions P → NoneFits (scope_tests (variables P) (scope_of P f))
  unfolding at
  scope_none f h =
      let low = fits.sound.some_place f h in
      let high = fits.sound.four_places f h in
      let known = λ (p : ℕ). fits.sound.known f p h in
      let distinct = λ (p q : ℕ). fits.sound.distinct f p q h in
      (λ out. omega arith, (λ (p, here, far). omega (arith, known p here), (λ (p, q, lt, here, same). omega (arith, distinct p q (omega arith) here same), tt)))

  room_none : (f : ℕ) → f < functions P → NoneFits (room_tests P.domains f (words_before P f) (scope_of P f))
  unfolding size scope_of
  room_none f h =
      let long = scopes_length P in
      let more = sum_by_more (combinations P.domains) (scopes_in P) f [] (omega arith) in
      let here = ap (combinations P.domains) (scope_at P f h) in
      let front = sum_by-take-le (combinations P.domains) (scopes_in P) (f + 1) in
      let all = words_by_scope P fits.sound in
      let full = fits.sound.full f h in
      let small = fits.small_tables f h in
      (λ many. omega arith, (λ over. omega arith, tt))

  record_none : (f place : ℕ) → f < functions P → NoneFits (record_tests P.domains f (words_before P f) place (scope_bytes (scope_of P f)))
  record_none f place h =
      let s = scope_of P f in
      let tests : List ℕ → List (ℕ × Type 0) = function_tests P.domains f (words_before P f) in
      let none = none_both (scope_tests (variables P) s) (room_tests P.domains f (words_before P f) s) (scope_none f h) (room_none f h) in
      none_both (at_place place (tests (scope_told (scope_bytes s)))) (((22, place), UnusedUsed (scope_bytes s)) ∷ [])
      (none_placed place (tests (scope_told (scope_bytes s))) (subst (λ (t : List ℕ). NoneFits (tests t)) (sym (bytes_tell s)) none))
      (λ (p, low, high, differs). differs (bytes_unused s p low high), tt)

-- the file meets no test of the header, of a domain, of a scope or of the sum
module _ {code : ℕ} {P : Problem} {bs : List ℕ} (fits : Fits P) (spelled : Spells code bs P) where
  counts_none : NoneFits (count_tests code bs)
  counts_none =
      let all = words_length P in
      (λ short. omega arith, (λ differs. differs spelled.scale, (λ many. omega arith, (λ many. omega arith, (λ many. omega arith, tt)))))

  places_none : NoneFits (place_tests bs)
  places_none =
      let domains = spelled.domains_offset in
      let scopes : half bs 10 ≡ scopes_place (half bs 2) = omega arith in
      let entries : half bs 12 ≡ entries_place (half bs 2) (half bs 4) = omega arith in
      let told : half bs 14 ≡ file_length (half bs 2) (half bs 4) (half bs 6) = omega arith in
      let long : length bs ≡ file_length (half bs 2) (half bs 4) (half bs 6) = omega arith in
      (λ no. no domains, (λ no. no scopes, (λ no. no entries, (λ no. no told, (λ no. no long, tt)))))

  domains_none : NoneFits (each (variables P) (domain_tests P.domains))
  domains_none =
      none_all (domain_tests P.domains) (variables P)
      (λ v h. none_placed (domains_place + v) (variable_tests v (get_or P.domains v 0)) (variable_none P fits v h))

  scopes_none : NoneFits (each (half bs 4) (scope_tests_at P.domains (scopes_part bs)))
  scopes_none =
      none_all (scope_tests_at P.domains (scopes_part bs)) (half bs 4)
      (λ f h.
      let place = scopes_place (variables P) + 5 * f in
      subst (λ (n : ℕ). NoneFits (record_tests P.domains f n place (record_at (scopes_part bs) f))) (sym (words_are spelled f (omega arith)))
      (subst (λ (bytes : List ℕ). NoneFits (record_tests P.domains f (words_before P f) place bytes)) (sym (record_is spelled f (omega arith)))
      (record_none P fits f place (omega arith))))

  sum_none : NoneFits (sum_tests P.domains (scopes_part bs) (half bs 4) (half bs 6))
  sum_none =
      let long = scopes_length P in
      let told = words_are spelled (half bs 4) (omega arith) in
      let whole = ap (sum_by (combinations P.domains)) (take_all (half bs 4) (scopes_in P) (omega arith)) in
      let sum = words_by_scope P fits.sound in
      let all = words_length P in
      (λ differs. differs (omega arith), tt)

  layout_none : NoneFits (layout_tests (domains_part bs) (scopes_part bs) (half bs 4) (half bs 6))
  layout_none =
      let domains = each (variables P) (domain_tests P.domains) in
      let scopes = each (half bs 4) (scope_tests_at P.domains (scopes_part bs)) in
      let sum = sum_tests P.domains (scopes_part bs) (half bs 4) (half bs 6) in
      subst (λ (ds : List ℕ). NoneFits (layout_tests ds (scopes_part bs) (half bs 4) (half bs 6))) (sym (domains_are spelled))
      (none_both domains (scopes ++ sum) domains_none (none_both scopes sum scopes_none sum_none))

-- nor of a word
entries_none : {E : Type 0} (R : Rules E) {P : Problem} {bs : List ℕ} → AllEntries R P → Spells R.code bs P →
    NoneFits (each (half bs 6) (entry_tests R (entries_place (half bs 2) (half bs 4)) (entries_part bs)))
entries_none R {P} {bs} entries spelled =
    none_all (entry_tests R (entries_place (half bs 2) (half bs 4)) (entries_part bs)) (half bs 6)
    (λ k h.
    let here : k < length (words_in_order P) = omega arith in
    (λ no. both_ways (R.entry (word (entries_part bs) (4 * k))) no (ap R.entry (word_is spelled k here) ∙ entries k here), tt))

pub spelled_accepted : {E : Type 0} (R : Rules E) → SpelledAccepted R
spelled_accepted R P bs fits entries spelled =
    let counts = count_tests R.code bs in
    let places = place_tests bs in
    let layout = layout_tests (domains_part bs) (scopes_part bs) (half bs 4) (half bs 6) in
    let words = each (half bs 6) (entry_tests R (entries_place (half bs 2) (half bs 4)) (entries_part bs)) in
    none_both (counts ++ places) (layout ++ words) (none_both counts places (counts_none fits spelled) (places_none fits spelled))
    (none_both layout words (layout_none fits spelled) (entries_none R entries spelled))
