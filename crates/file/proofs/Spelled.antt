-- What an accepted file spells. Assumes nothing.
use Rattle.std.proofs.Common.{◌≡◌, ℕ, ◌+◌, ◌*◌, ◌<◌, ◌≤◌, ◌≢◌, List, [], ◌∷◌, ◌++◌, length, get_or, sum_by, sym, ap, ◌∙◌, ap₂, inr, ⊎_elim, arith}
use Rattle.std.proofs.lemmas.List.FromFn.{length-map-range_with_len, get_or-map-range_with_len}
use Rattle.std.proofs.lemmas.List.{get_or-take, length-take-le}
use Rattle.std.proofs.lemmas.Bool.{cases_Bool, cases_eq, cases_lt}
use Rattle.scale.specs.Rules.{Rules}
use Rattle.theory.specs.Problem.{variables, functions, scope_of, words_in_order}
use Rattle.theory.specs.Refusals.{NoneFits, function_tests, word_tests}
use Rattle.theory.specs.Sizes.{combinations}
use Rattle.theory.proofs.Refusing.{none_front, none_back}
use Rattle.layout.specs.View.{domains_of, scopes_of, words_in}
use Rattle.tables.specs.declared.tables.Tables.{Tables}
use Rattle.tables.specs.View.{problem_of}
use Rattle.tables.proofs.Ordered.{in_order, functions_length, scope_from}
use Rattle.file.specs.declared.places.Header.{Header}
use Rattle.file.specs.Bytes.{half, word, part}
use Rattle.file.specs.Places.{domains_place, scopes_place, entries_place, file_length}
use Rattle.file.specs.Spelling.{Spells, AllEntries, scope_bytes}
use Rattle.file.specs.Tests.{each, at_place, count_tests, place_tests, header_tests, layout_tests, domain_tests, scope_tests_at, sum_tests, record_at, scope_told, scopes_told, words_told, entry_tests, domains_part, scopes_part, entries_part, UnusedUsed}
use Rattle.file.specs.Inner.{Told}
use Rattle.file.proofs.Parts.{part_length, part_part, word_part}
use Rattle.file.proofs.Records.{bytes_are, told_length, told_at}
use Rattle.file.proofs.Testing.{none_at, none_unplaced}

-- what does not differ is the same
same_from : (a b : ℕ) → ((a ≢ b) → ⊥) → a ≡ b
same_from a b h = ⊎_elim (λ (e : a ≡ b). e) (λ (d : a ≢ b). absurd (h d)) (cases_eq a b)

not_over : (a b : ℕ) → (a < b → ⊥) → b ≤ a
not_over a b h = ⊎_elim (λ (lt : a < b). absurd (h lt)) (λ (le : b ≤ a). le) (cases_lt a b)

-- five bytes with a size of at most 4 and 255 at each unused place are those of the scope that they tell
record_spells : (bs : List ℕ) → length bs ≡ 5 → get_or bs 0 0 ≤ 4 → (UnusedUsed bs → ⊥) → bs ≡ scope_bytes (scope_told bs)
record_spells bs long few unused =
    let size = told_length bs in
    bytes_are bs (scope_told bs) long (sym size) (omega arith) (λ p h. sym (told_at bs p (omega arith)))
    (λ p h k. same_from (get_or bs (1 + p) 0) 255 (λ differs. unused (p, omega arith, k, differs)))

module _ {E : Type 0} (R : Rules E) (bs : List ℕ) (h : Header) (told : Told bs h) (header : NoneFits (header_tests R.code bs)) (t : Tables)
    (domains : domains_of t.layout ≡ domains_part bs) (scopes : scopes_of t.layout ≡ scopes_told (scopes_part bs) (half bs 4))
    (layout_none : NoneFits (layout_tests (domains_part bs) (scopes_part bs) (half bs 4) (half bs 6)))
    (words : (k : ℕ) → k < half bs 6 → get_or t.words k 0 ≡ word bs (entries_place (half bs 2) (half bs 4) + 4 * k)) where
  open t use {layout as l}

  later : NoneFits (each (half bs 4) (scope_tests_at (domains_part bs) (scopes_part bs)) ++ sum_tests (domains_part bs) (scopes_part bs) (half bs 4) (half bs 6))
  later =
      none_back (each (length (domains_part bs)) (domain_tests (domains_part bs)))
      (each (half bs 4) (scope_tests_at (domains_part bs) (scopes_part bs)) ++ sum_tests (domains_part bs) (scopes_part bs) (half bs 4) (half bs 6)) layout_none

  records : NoneFits (each (half bs 4) (scope_tests_at (domains_part bs) (scopes_part bs)))
  records = none_front (each (half bs 4) (scope_tests_at (domains_part bs) (scopes_part bs))) (sum_tests (domains_part bs) (scopes_part bs) (half bs 4) (half bs 6)) later

  sum : half bs 6 ≡ words_in t.layout
  sum =
      same_from (half bs 6) (words_told (domains_part bs) (scopes_part bs) (half bs 4))
      (none_back (each (half bs 4) (scope_tests_at (domains_part bs) (scopes_part bs))) (sum_tests (domains_part bs) (scopes_part bs) (half bs 4) (half bs 6)) later).0
      ∙ ap₂ (λ (ds : List ℕ) (ss : List (List ℕ)). sum_by (combinations ds) ss) (sym domains) (sym scopes)

  whole : length bs ≡ file_length (half bs 2) (half bs 4) (half bs 6)
  whole = let c = told.counted in let long = told.long in omega arith

  variables_are : variables (problem_of t) ≡ half bs 2
  variables_are = let long = whole in ap length domains ∙ part_length bs 16 (half bs 2) (omega arith)

  functions_are : functions (problem_of t) ≡ half bs 4
  functions_are =
      functions_length (domains_of l) (scopes_of l) t.words ∙ ap length scopes ∙ length-map-range_with_len (λ (f : ℕ). scope_told (record_at (scopes_part bs) f)) 0 (half bs 4)

  entries_are : length (words_in_order (problem_of t)) ≡ half bs 6
  entries_are = let few = l.few in let room = t.room in ap length (in_order t) ∙ length-take-le (words_in l) t.words (omega arith) ∙ sym sum

  word_is : (k : ℕ) → k < half bs 6 → get_or (words_in_order (problem_of t)) k 0 ≡ word bs (entries_place (half bs 2) (half bs 4) + 4 * k)
  word_is k lt = let all = sum in ap (λ (ws : List ℕ). get_or ws k 0) (in_order t) ∙ get_or-take (words_in l) t.words k 0 (omega arith) ∙ words k lt

  module _ (f : ℕ) (lt : f < half bs 4) where
    scopes_long : length (scopes_part bs) ≡ 5 * half bs 4
    scopes_long = let long = whole in part_length bs (16 + half bs 2) (5 * half bs 4) (omega arith)

    scope_is : scope_of (problem_of t) f ≡ scope_told (record_at (scopes_part bs) f)
    unfolding scope_of
    scope_is =
        scope_from (domains_of l) (scopes_of l) t.words f ∙ ap (λ (ss : List (List ℕ)). get_or ss f []) scopes
        ∙ get_or-map-range_with_len (λ (g : ℕ). scope_told (record_at (scopes_part bs) g)) 0 (half bs 4) f f [] lt (omega arith)

    record_is : record_at (scopes_part bs) f ≡ part bs (16 + half bs 2 + 5 * f) 5
    record_is = let long = whole in part_part bs (16 + half bs 2) (5 * half bs 4) (5 * f) 5 (omega arith) (omega arith)

    -- the tests of its scope and of its unused places
    scope_tests_of : List (ℕ × Type 0)
    scope_tests_of = function_tests (domains_part bs) f (words_told (domains_part bs) (scopes_part bs) f) (scope_told (record_at (scopes_part bs) f))

    place_of : ℕ
    place_of = 16 + length (domains_part bs) + 5 * f

    rest_of : List ((ℕ × ℕ) × Type 0)
    rest_of = ((22, place_of), UnusedUsed (record_at (scopes_part bs) f)) ∷ []

    none_here : NoneFits (at_place place_of scope_tests_of ++ rest_of)
    unfolding scope_tests_of place_of rest_of
    none_here = none_at (scope_tests_at (domains_part bs) (scopes_part bs)) (half bs 4) f lt records

    record_told : record_at (scopes_part bs) f ≡ scope_bytes (scope_told (record_at (scopes_part bs) f))
    unfolding scope_tests_of rest_of
    record_told =
        let long = scopes_long in
        let size = told_length (record_at (scopes_part bs) f) in
        let fit = none_unplaced place_of scope_tests_of (none_front (at_place place_of scope_tests_of) rest_of none_here) in
        let few = not_over 4 (length (scope_told (record_at (scopes_part bs) f))) (λ over. fit.0 (inr over)) in
        record_spells (record_at (scopes_part bs) f) (part_length (scopes_part bs) (5 * f) 5 (omega arith)) (omega arith)
        (none_back (at_place place_of scope_tests_of) rest_of none_here).0

  pub spelled : Spells R.code bs (problem_of t)
  spelled =
      let vs = variables_are in
      let fs = functions_are in
      let es = entries_are in
      let places = none_back (count_tests R.code bs) (place_tests bs) header in
      let at8 = same_from (half bs 8) domains_place places.0 in
      let at10 = same_from (half bs 10) (scopes_place (half bs 2)) places.1.0 in
      let at12 = same_from (half bs 12) (entries_place (half bs 2) (half bs 4)) places.1.1.0 in
      let at14 = same_from (half bs 14) (file_length (half bs 2) (half bs 4) (half bs 6)) places.1.1.1.0 in
      record {
        bytes = told.counted.bytes;
        scale = same_from (half bs 0) R.code header.1.0;
        variable_count = sym vs;
        function_count = sym fs;
        entry_count = sym es;
        domains_offset = at8;
        scopes_offset = omega arith;
        entries_offset = omega arith;
        length_told = omega arith;
        long = let long = whole in omega arith;
        domains = ap (λ (n : ℕ). part bs 16 n) vs ∙ sym domains;
        scopes = λ f lt.
            let there : f < half bs 4 = omega arith in
            let place : 16 + variables (problem_of t) + 5 * f ≡ 16 + half bs 2 + 5 * f = omega arith in
            ap (λ (n : ℕ). part bs n 5) place ∙ sym (record_is f there) ∙ record_told f there ∙ ap scope_bytes (sym (scope_is f there));
        words = λ k lt.
            let place : entries_place (variables (problem_of t)) (functions (problem_of t)) + 4 * k ≡ entries_place (half bs 2) (half bs 4) + 4 * k = omega arith in
            ap (word bs) place ∙ sym (word_is k (omega arith));
      }

  pub only_entries : NoneFits (each (half bs 6) (entry_tests R (entries_place (half bs 2) (half bs 4)) (entries_part bs))) → AllEntries R (problem_of t)
  only_entries none k lt =
      let es = entries_are in
      let there : k < half bs 6 = omega arith in
      let e = entries_place (half bs 2) (half bs 4) in
      let here = none_unplaced (e + 4 * k) (word_tests R (word (entries_part bs) (4 * k))) (none_at (entry_tests R e (entries_part bs)) (half bs 6) k there none) in
      let same : get_or (words_in_order (problem_of t)) k 0 ≡ word (entries_part bs) (4 * k) = word_is k there ∙ sym (word_part bs e (4 * half bs 6) (4 * k) (omega arith)) in
      ap R.entry same ∙ ⊎_elim (λ yes. yes) (λ no. absurd (here.0 no)) (cases_Bool (R.entry (word (entries_part bs) (4 * k))))
