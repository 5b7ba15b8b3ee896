-- The tests of a file, in order, each with the number and the place that it is answered by. Assumes nothing.
use Rattle.std.specs.Prelude.{ℕ, zero, suc, ◌+◌, ◌*◌, ◌<◌, ◌≤◌, ◌≢◌, List, [], ◌∷◌, ◌++◌, map, length, sum_by, slice_index}
use Rattle.std.specs.List.{range_with_len}
use Rattle.scale.specs.Rules.{Rules}
use Rattle.theory.specs.Refusals.{variable_tests, function_tests, word_tests}
use Rattle.theory.specs.Sizes.{combinations}
use Rattle.file.specs.Bytes.{half, word, part}
use Rattle.file.specs.Places.{domains_place, scopes_place, entries_place, file_length}

-- The tests of a list of items, item by item.
unfoldable pub each : {A : Type 0} → ℕ → (ℕ → List (A × Type 0)) → List (A × Type 0)
each zero tests = []
each (suc n) tests = each n tests ++ tests n

-- tests of the problem, at a place of the file
abbrev pub at_place : ℕ → List (ℕ × Type 0) → List ((ℕ × ℕ) × Type 0)
at_place k tests = map (λ t. ((t.0, k), t.1)) tests

-- A file that is long enough to have a scale code.
abbrev pub code_tests : List ℕ → List ((ℕ × ℕ) × Type 0)
code_tests bs = ((18, 0), length bs < 16) ∷ []

-- The header's counts, for the scale with this code.
abbrev pub count_tests : ℕ → List ℕ → List ((ℕ × ℕ) × Type 0)
count_tests code bs =
    ((18, 0), length bs < 16) ∷
    ((19, 0), half bs 0 ≢ code) ∷
    ((20, 2), 64 < half bs 2) ∷
    ((20, 4), 64 < half bs 4) ∷
    ((20, 6), 4096 < half bs 6) ∷ []

-- The header's offsets and length, and the true length.
abbrev pub place_tests : List ℕ → List ((ℕ × ℕ) × Type 0)
place_tests bs =
    ((21, 8), half bs 8 ≢ domains_place) ∷
    ((21, 10), half bs 10 ≢ scopes_place (half bs 2)) ∷
    ((21, 12), half bs 12 ≢ entries_place (half bs 2) (half bs 4)) ∷
    ((21, 14), half bs 14 ≢ file_length (half bs 2) (half bs 4) (half bs 6)) ∷
    ((21, 14), length bs ≢ file_length (half bs 2) (half bs 4) (half bs 6)) ∷ []

abbrev pub header_tests : ℕ → List ℕ → List ((ℕ × ℕ) × Type 0)
header_tests code bs = count_tests code bs ++ place_tests bs

-- The domain v of a section of domains.
abbrev pub domain_tests : List ℕ → ℕ → List ((ℕ × ℕ) × Type 0)
domain_tests domains v = at_place (domains_place + v) (variable_tests v (slice_index domains v))

-- the scope that a record of five bytes tells: as many variables as its first byte says
abbrev pub scope_told : List ℕ → List ℕ
scope_told bytes = map (λ (p : ℕ). slice_index bytes (1 + p)) (range_with_len 0 (slice_index bytes 0))

-- an unused place of a record is not 255
abbrev pub UnusedUsed : List ℕ → Type 0
UnusedUsed bytes = (p : ℕ) × (slice_index bytes 0 ≤ p) × (p < 4) × (slice_index bytes (1 + p) ≢ 255)

-- A record: its scope is tested as that of a new function, and then its unused places.
abbrev pub record_tests : List ℕ → ℕ → ℕ → ℕ → List ℕ → List ((ℕ × ℕ) × Type 0)
record_tests domains count used place bytes =
    at_place place (function_tests domains count used (scope_told bytes)) ++ (((22, place), UnusedUsed bytes) ∷ [])

-- record f of a section of scopes, the first n scopes, and how many words their tables have together
abbrev pub record_at : List ℕ → ℕ → List ℕ
record_at records f = part records (5 * f) 5

abbrev pub scopes_told : List ℕ → ℕ → List (List ℕ)
scopes_told records n = map (λ (f : ℕ). scope_told (record_at records f)) (range_with_len 0 n)

abbrev pub words_told : List ℕ → List ℕ → ℕ → ℕ
words_told domains records n = sum_by (combinations domains) (scopes_told records n)

-- The scope of function f.
abbrev pub scope_tests_at : List ℕ → List ℕ → ℕ → List ((ℕ × ℕ) × Type 0)
scope_tests_at domains records f = record_tests domains f (words_told domains records f) (scopes_place (length domains) + 5 * f) (record_at records f)

-- The number of entries, against the tables.
abbrev pub sum_tests : List ℕ → List ℕ → ℕ → ℕ → List ((ℕ × ℕ) × Type 0)
sum_tests domains records functions entries = ((23, 6), entries ≢ words_told domains records functions) ∷ []

-- The word k of a section of entries that begins at a place.
abbrev pub entry_tests : {E : Type 0} → Rules E → ℕ → List ℕ → ℕ → List ((ℕ × ℕ) × Type 0)
entry_tests R place entries k = at_place (place + 4 * k) (word_tests R (word entries (4 * k)))

-- the sections of a file
abbrev pub domains_part : List ℕ → List ℕ
domains_part bs = part bs domains_place (half bs 2)

abbrev pub scopes_part : List ℕ → List ℕ
scopes_part bs = part bs (scopes_place (half bs 2)) (5 * half bs 4)

abbrev pub entries_part : List ℕ → List ℕ
entries_part bs = part bs (entries_place (half bs 2) (half bs 4)) (4 * half bs 6)

-- The domains, the scopes, and the sum of the tables.
abbrev pub layout_tests : List ℕ → List ℕ → ℕ → ℕ → List ((ℕ × ℕ) × Type 0)
layout_tests domains records functions entries =
    each (length domains) (domain_tests domains) ++ (each functions (scope_tests_at domains records) ++ sum_tests domains records functions entries)

-- All tests of a file for a scale: the header, then domains, scopes and the sum of the tables, then words.
abbrev pub file_tests : {E : Type 0} → Rules E → List ℕ → List ((ℕ × ℕ) × Type 0)
file_tests R bs =
    header_tests R.code bs ++
    (layout_tests (domains_part bs) (scopes_part bs) (half bs 4) (half bs 6) ++
    each (half bs 6) (entry_tests R (entries_place (half bs 2) (half bs 4)) (entries_part bs)))
