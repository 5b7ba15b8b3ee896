use Rattle.std.proofs.Common.{◌≡◌, ℕ, ◌+◌, ◌*◌, ◌/◌, ◌<◌, List, ◌++◌, length, ap, ◌∙◌, subst, ap₂, arith}
use Rattle.std.proofs.lemmas.Result.{err_from_is_err_and}
use Rattle.scale.specs.Rules.{Rules}
use Rattle.theory.specs.Refusals.{First, NoneFits}
use Rattle.theory.proofs.Refusing.{first_before, first_after, none_both}
use Rattle.layout.specs.View.{domains_of, scopes_of}
use Rattle.tables.specs.declared.tables.Tables.{Tables}
use Rattle.tables.specs.View.{problem_of}
use Rattle.file.specs.declared.places.Header.{Header}
use Rattle.file.specs.Bytes.{half, word}
use Rattle.file.specs.Numbers.{refusal}
use Rattle.file.specs.Places.{entries_place}
use Rattle.file.specs.Tests.{each, header_tests, layout_tests, entry_tests, scopes_told, domains_part, scopes_part, entries_part}
use Rattle.file.specs.Inner.{Counted, Holds}
use Rattle.file.proofs.Parts.{word_part}
use Rattle.file.proofs.Spelled.{spelled, only_entries}
use Rattle.file.proofs.Unique.{one_spelling}
use Rattle.file.proofs.reading.examine.Goals as goal

-- the tests of the layout, of the words, and of both
layout_tests_of : List ℕ → List ((ℕ × ℕ) × Type 0)
layout_tests_of bs = layout_tests (domains_part bs) (scopes_part bs) (half bs 4) (half bs 6)

words_tests_of : {E : Type 0} → Rules E → List ℕ → List ((ℕ × ℕ) × Type 0)
words_tests_of R bs = each (half bs 6) (entry_tests R (entries_place (half bs 2) (half bs 4)) (entries_part bs))

after_header : {E : Type 0} → Rules E → List ℕ → List ((ℕ × ℕ) × Type 0)
after_header R bs = layout_tests_of bs ++ words_tests_of R bs

-- sections ds, ss and es of a file, as the header cuts them
module _ {E : Type 0} (R : Rules E) (bs ds ss es : List ℕ) (h : Header) (counted : Counted bs h)
    (domains : ds ≡ domains_part bs) (scopes : ss ≡ scopes_part bs) (entries : es ≡ entries_part bs)
    (lengths : (length ds ≡ h.variables) × (length ss ≡ 5 * h.functions) × (length es ≡ 4 * h.entries)) where
  scope_count : length ss / 5 ≡ half bs 4
  scope_count = let told = counted in omega arith

  word_count : length es / 4 ≡ half bs 6
  word_count = let told = counted in omega arith

  layout_same : layout_tests ds ss (length ss / 5) h.entries ≡ layout_tests_of bs
  unfolding layout_tests_of
  layout_same =
      ap₂ (λ (d s : List ℕ). layout_tests d s (length ss / 5) h.entries) domains scopes
      ∙ ap₂ (λ (f e : ℕ). layout_tests (domains_part bs) (scopes_part bs) f e) scope_count counted.entries

  words_same : (place : ℕ) → place ≡ entries_place h.variables h.functions → each (length es / 4) (entry_tests R place es) ≡ words_tests_of R bs
  unfolding words_tests_of
  words_same place e =
      let placed : place ≡ entries_place (half bs 2) (half bs 4) = let told = counted in omega arith in
      ap (λ (n : ℕ). each n (entry_tests R place es)) word_count ∙ ap₂ (λ (p : ℕ) (s : List ℕ). each (half bs 6) (entry_tests R p s)) placed entries

  word_same : (k : ℕ) → k < half bs 6 → word es (4 * k) ≡ word bs (entries_place (half bs 2) (half bs 4) + 4 * k)
  word_same k lt = ap (λ (s : List ℕ). word s (4 * k)) entries ∙ word_part bs (entries_place (half bs 2) (half bs 4)) (4 * half bs 6) (4 * k) (omega arith)

pub returns-in_err-read_layout : goal.returns-in_err-read_layout
unfolding after_header layout_tests_of words_tests_of
returns-in_err-read_layout g c =
    let R = g.V.Scale.rules in
    let bs = c.args.bytes.now in
    let h = c.args.header in
    let parts = c.cut-sections.ensures in
    let f = c.in_err-read_layout.field-0.0 in
    let e = err_from_is_err_and c.from_residual.result c.from_residual.ensures.1 in
    let none = c.requires.none in
    let same = layout_same R bs _ _ _ h c.requires.told.counted parts.domains parts.scopes parts.entries parts.lengths in
    let here = subst (λ (ts : List ((ℕ × ℕ) × Type 0)). First ts (refusal f)) same c.in_err-read_layout.ensures in
    rw (e.1, e.2) (first_after (header_tests R.code bs) (after_header R bs) (refusal f) none (first_before (layout_tests_of bs) (words_tests_of R bs) (refusal f) here))

pub returns-in_err-test_words : goal.returns-in_err-test_words
unfolding after_header layout_tests_of words_tests_of
returns-in_err-test_words g c =
    let R = g.V.Scale.rules in
    let bs = c.args.bytes.now in
    let h = c.args.header in
    let parts = c.cut-sections.ensures in
    let f = c.in_err-test_words.field-0.0 in
    let e = err_from_is_err_and c.from_residual-in_err-test_words.result c.from_residual-in_err-test_words.ensures.1 in
    let none = c.requires.none in
    let same = layout_same R bs _ _ _ h c.requires.told.counted parts.domains parts.scopes parts.entries parts.lengths in
    let layout_none = subst (λ (ts : List ((ℕ × ℕ) × Type 0)). NoneFits ts) same c.in_ok-read_layout.ensures.0 in
    let words = words_same R bs _ _ _ h c.requires.told.counted parts.domains parts.scopes parts.entries parts.lengths c.entries_place.result c.entries_place.ensures in
    let here = subst (λ (ts : List ((ℕ × ℕ) × Type 0)). First ts (refusal f)) words c.in_err-test_words.ensures in
    rw (e.1, e.2) (first_after (header_tests R.code bs) (after_header R bs) (refusal f) none (first_after (layout_tests_of bs) (words_tests_of R bs) (refusal f) layout_none here))

pub returns : goal.returns
unfolding after_header layout_tests_of words_tests_of
returns g c =
    let R = g.V.Scale.rules in
    let bs = c.args.bytes.now in
    let h = c.args.header in
    let few = h.few in
    let parts = c.cut-sections.ensures in
    let told = c.requires.told in
    let counted = told.counted in
    let after = c.in_ok-read_layout.ensures in
    let none = c.requires.none in
    let same = layout_same R bs _ _ _ h counted parts.domains parts.scopes parts.entries parts.lengths in
    let layout_none = subst (λ (ts : List ((ℕ × ℕ) × Type 0)). NoneFits ts) same after.0 in
    let words = words_same R bs _ _ _ h counted parts.domains parts.scopes parts.entries parts.lengths c.entries_place.result c.entries_place.ensures in
    let words_none = subst (λ (ts : List ((ℕ × ℕ) × Type 0)). NoneFits ts) words c.in_ok-test_words.ensures.0 in
    let Held = λ (t : Tables). Holds t c.read_layout.new.layout c.cut-sections.result.entries.now in
    let same-domains = λ (t : Tables) (held : Held t). ap domains_of held.layout ∙ after.1.0 ∙ parts.domains in
    let same-scopes = λ (t : Tables) (held : Held t). ap scopes_of held.layout ∙ after.1.1 ∙ ap₂ scopes_told parts.scopes (scope_count R bs _ _ _ h counted parts.domains parts.scopes parts.entries parts.lengths) in
    let same-words = λ (t : Tables) (held : Held t) (k : ℕ) (lt : k < half bs 6).
    held.words k (omega (arith, counted.entries, parts.lengths)) ∙ word_same R bs _ _ _ h counted parts.domains parts.scopes parts.entries parts.lengths k lt in (
      none_both (header_tests R.code bs) (after_header R bs) none (none_both (layout_tests_of bs) (words_tests_of R bs) layout_none words_none),
      record {
        few = omega (arith, parts.lengths);
        read_as = λ t held.
            let here = spelled R bs h told none t (same-domains t held) (same-scopes t held) layout_none (same-words t held) in
            record {
              spelled = here;
              entries = only_entries R bs h told none t (same-domains t held) (same-scopes t held) layout_none (same-words t held) words_none;
              again = λ cs there. one_spelling R.code (problem_of t) cs bs there here;
            };
      },
    )
