use Rattle.std.proofs.Common.{◌≡◌, ℕ, ◌/◌, List, ◌++◌, length, sum_by, sym, ap, ◌∙◌, subst, ap₂, inl}
use Rattle.std.proofs.lemmas.Result.{err_from_is_err_and}
use Rattle.theory.specs.Refusals.{First, NoneFits}
use Rattle.theory.specs.Sizes.{combinations}
use Rattle.theory.proofs.Refusing.{first_before, first_after, none_both}
use Rattle.layout.specs.declared.layout.Layout.{Layout}
use Rattle.layout.specs.View.{domains_of, scopes_of, words_in}
use Rattle.file.specs.Numbers.{refusal}
use Rattle.file.specs.Tests.{each, domain_tests, scope_tests_at, sum_tests, scopes_told, words_told}
use Rattle.file.proofs.reading.read_layout.Goals as goal

pub returns-in_err-read_domains : goal.returns-in_err-read_domains
returns-in_err-read_domains c =
    let ds = c.args.sections.domains.now in
    let ss = c.args.sections.scopes.now in
    let n = length ss / 5 in
    let f = c.in_err-read_domains.field-0.0 in
    let e = err_from_is_err_and c.from_residual.result c.from_residual.ensures.1 in
    rw (e.1, e.2)
    (first_before (each (length ds) (domain_tests ds)) (each n (scope_tests_at ds ss) ++ sum_tests ds ss n c.args.entries) (refusal f) c.in_err-read_domains.ensures)

pub returns-in_err-read_scopes : goal.returns-in_err-read_scopes
returns-in_err-read_scopes c =
    let ds = c.args.sections.domains.now in
    let ss = c.args.sections.scopes.now in
    let n = length ss / 5 in
    let before = c.in_ok-read_domains.ensures in
    let f = c.in_err-read_scopes.field-0.0 in
    let e = err_from_is_err_and c.from_residual-in_err-read_scopes.result c.from_residual-in_err-read_scopes.ensures.1 in
    let here = subst (λ (d : List ℕ). First (each n (scope_tests_at d ss)) (refusal f)) before.1.0 c.in_err-read_scopes.ensures in
    rw (e.1, e.2)
    (first_after (each (length ds) (domain_tests ds)) (each n (scope_tests_at ds ss) ++ sum_tests ds ss n c.args.entries) (refusal f) before.0
    (first_before (each n (scope_tests_at ds ss)) (sum_tests ds ss n c.args.entries) (refusal f) here))

-- the words of a layout that was read
used : (l : Layout) (ds ss : List ℕ) (n : ℕ) → domains_of l ≡ ds → scopes_of l ≡ scopes_told ss n → words_in l ≡ words_told ds ss n
used l ds ss n domains scopes = ap₂ (λ (d : List ℕ) (s : List (List ℕ)). sum_by (combinations d) s) domains scopes

pub returns-then-entries-words : goal.returns-then-entries-words
returns-then-entries-words c =
    let ds = c.args.sections.domains.now in
    let ss = c.args.sections.scopes.now in
    let n = length ss / 5 in
    let before = c.in_ok-read_domains.ensures in
    let after = c.in_ok-read_scopes.ensures in
    let none = subst (λ (d : List ℕ). NoneFits (each n (scope_tests_at d ss))) before.1.0 after.0 in
    let words = c.words.ensures ∙ used c.read_scopes.new.layout ds ss n (after.1.0 ∙ before.1.0) after.1.1 in
    first_after (each (length ds) (domain_tests ds)) (each n (scope_tests_at ds ss) ++ sum_tests ds ss n c.args.entries) (refusal c.at.result) before.0
    (first_after (each n (scope_tests_at ds ss)) (sum_tests ds ss n c.args.entries) (refusal c.at.result) none (inl ((λ e. c.if-entries-words.true (e ∙ sym words)), ap refusal c.at.ensures)))

pub returns : goal.returns
returns c =
    let ds = c.args.sections.domains.now in
    let ss = c.args.sections.scopes.now in
    let n = length ss / 5 in
    let before = c.in_ok-read_domains.ensures in
    let after = c.in_ok-read_scopes.ensures in
    let none = subst (λ (d : List ℕ). NoneFits (each n (scope_tests_at d ss))) before.1.0 after.0 in
    let words = c.words.ensures ∙ used c.read_scopes.new.layout ds ss n (after.1.0 ∙ before.1.0) after.1.1 in (
      none_both (each (length ds) (domain_tests ds)) (each n (scope_tests_at ds ss) ++ sum_tests ds ss n c.args.entries) before.0
          (none_both (each n (scope_tests_at ds ss)) (sum_tests ds ss n c.args.entries) none ((λ differs. differs (c.if-entries-words.false ∙ words)), tt)),
      (after.1.0 ∙ before.1.0, after.1.1),
    )
