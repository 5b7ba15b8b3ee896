use Rattle.std.proofs.Common.{◌≡◌, ℕ, ◌+◌, ◌*◌, ◌/◌, ◌<◌, List, [], ◌∷◌, ◌++◌, length, get_or, sum_by, sym, refl, ap, ◌∙◌, subst, ap₂, arith}
use Rattle.std.proofs.lemmas.List.FromFn.{length-map-range_with_len, map-range_with_len_more}
use Rattle.std.proofs.lemmas.Result.{err_from_is_err_and}
use Rattle.theory.specs.Refusals.{First, NoneFits}
use Rattle.theory.specs.Sizes.{combinations}
use Rattle.layout.specs.declared.layout.Layout.{Layout}
use Rattle.layout.specs.View.{domains_of, scopes_of, words_in}
use Rattle.file.specs.Numbers.{refusal}
use Rattle.file.specs.Tests.{record_tests, record_at, scope_tests_at, scope_told, scopes_told, words_told}
use Rattle.file.proofs.Parts.{chunk_at}
use Rattle.file.proofs.Testing.{none_each, none_more, first_each}
use Rattle.file.proofs.scopes.read_scopes.Goals as goal

pub loop-f-init : goal.loop-f-init
loop-f-init c = (none_each (scope_tests_at (domains_of c.args.layout.now) c.args.section.now), refl, c.requires)

-- the tests of a record, where the layout so far tells what the section tells
module _ (layout next : Layout) (section bytes : List ℕ) (f place : ℕ)
    (domains : domains_of next ≡ domains_of layout) (scopes : scopes_of next ≡ scopes_told section f)
    (placed : place ≡ 16 + length (domains_of layout) + 5 * f) (part : bytes ≡ record_at section f) where
  counted : length (scopes_of next) ≡ f
  counted = ap length scopes ∙ length-map-range_with_len (λ (g : ℕ). scope_told (record_at section g)) 0 f

  used : words_in next ≡ words_told (domains_of layout) section f
  used = ap₂ (λ (ds : List ℕ) (ss : List (List ℕ)). sum_by (combinations ds) ss) domains scopes

  same_tests : record_tests (domains_of next) (length (scopes_of next)) (words_in next) place bytes ≡ scope_tests_at (domains_of layout) section f
  same_tests =
      ap (λ (ds : List ℕ). record_tests ds (length (scopes_of next)) (words_in next) place bytes) domains
      ∙ ap₂ (λ (n u : ℕ). record_tests (domains_of layout) n u place bytes) counted used
      ∙ ap₂ (λ (k : ℕ) (bs : List ℕ). record_tests (domains_of layout) f (words_told (domains_of layout) section f) k bs) placed part

  first_here : (a : ℕ × ℕ) → First (record_tests (domains_of next) (length (scopes_of next)) (words_in next) place bytes) a → First (scope_tests_at (domains_of layout) section f) a
  first_here a = subst (λ (ts : List ((ℕ × ℕ) × Type 0)). First ts a) same_tests

  none_here : NoneFits (record_tests (domains_of next) (length (scopes_of next)) (words_in next) place bytes) → NoneFits (scope_tests_at (domains_of layout) section f)
  none_here = subst (λ (ts : List ((ℕ × ℕ) × Type 0)). NoneFits ts) same_tests

  scopes_more : (more : List (List ℕ)) → more ≡ scopes_of next ++ (scope_told bytes ∷ []) → more ≡ scopes_told section (f + 1)
  scopes_more more e =
      e ∙ ap₂ (λ (ss : List (List ℕ)) (bs : List ℕ). ss ++ (scope_told bs ∷ [])) scopes part
      ∙ sym (map-range_with_len_more (λ (g : ℕ). scope_told (record_at section g)) 0 f f (omega arith))

pub returns-in_err-read_scope : goal.returns-in_err-read_scope
returns-in_err-read_scope c =
    let section = c.args.section.now in
    let n = length section / 5 in
    let f = c.loop-f.f in
    let known : f < n = omega arith in
    let placed = ap (λ (ds : List ℕ). 16 + length ds + 5 * f) c.domains.ensures in
    let part = ap (λ (rs : List (List ℕ)). get_or rs f []) c.as_chunks.ensures.front ∙ chunk_at 5 n f section known in
    let a = c.in_err-read_scope.field-0.0 in
    let e = err_from_is_err_and c.from_residual.result c.from_residual.ensures.1 in
    let here = first_here c.args.layout.now c.loop-f.layout section _ f _ c.loop-f.invariant.1 c.loop-f.invariant.2 placed part (refusal a) c.in_err-read_scope.ensures in
    rw (e.1, e.2) (first_each (scope_tests_at (domains_of c.args.layout.now) section) n f (refusal a) known c.loop-f.invariant.0 here)

pub loop-f-preserved : goal.loop-f-preserved
loop-f-preserved c =
    let layout = c.args.layout.now in
    let section = c.args.section.now in
    let n = length section / 5 in
    let f = c.loop-f.f in
    let placed = ap (λ (ds : List ℕ). 16 + length ds + 5 * f) c.domains.ensures in
    let part = ap (λ (rs : List (List ℕ)). get_or rs f []) c.as_chunks.ensures.front ∙ chunk_at 5 n f section (omega arith) in
    let h = c.in_ok-read_scope.ensures in (
      none_more (scope_tests_at (domains_of layout) section) f c.loop-f.invariant.0
          (none_here layout c.loop-f.layout section _ f _ c.loop-f.invariant.1 c.loop-f.invariant.2 placed part h.0),
      h.1.0 ∙ c.loop-f.invariant.1,
      scopes_more layout c.loop-f.layout section _ f _ c.loop-f.invariant.1 c.loop-f.invariant.2 placed part (scopes_of c.read_scope.new.layout) h.1.1,
    )
