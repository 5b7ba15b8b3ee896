use Rattle.std.proofs.Common.{◌≡◌, ℕ, ◌+◌, ◌≤◌, List, [], ◌∷◌, ◌++◌, length, get_or, take, sym, ap, ◌∙◌, subst, arith}
use Rattle.std.proofs.lemmas.List.{length-take-le, take_more}
use Rattle.std.proofs.lemmas.Result.{err_from_is_err_and}
use Rattle.theory.specs.Refusals.{First, NoneFits, variable_tests}
use Rattle.layout.specs.View.{domains_of}
use Rattle.file.specs.Numbers.{refusal}
use Rattle.file.specs.Tests.{at_place, domain_tests}
use Rattle.file.proofs.Testing.{none_each, none_more, first_each}
use Rattle.file.proofs.scopes.read_domains.Goals as goal

pub loop-v-init : goal.loop-v-init
loop-v-init c = (none_each (domain_tests c.args.section.now), c.requires.domains, c.requires.scopes)

-- as many variables as domains that were read
counted : (v : ℕ) (ds section : List ℕ) → v ≤ length section → ds ≡ take v section → length ds ≡ v
counted v ds section h e = ap length e ∙ length-take-le v section h

pub returns-in_err-read_domain : goal.returns-in_err-read_domain
returns-in_err-read_domain c =
    let section = c.args.section.now in
    let v = c.loop-v.v in
    let size = get_or section v 0 in
    let count = counted v (domains_of c.loop-v.layout) section (omega arith) c.loop-v.invariant.1 in
    let f = c.in_err-read_domain.field-0.0 in
    let e = err_from_is_err_and c.from_residual.result c.from_residual.ensures.1 in
    let here = subst (λ (n : ℕ). First (at_place (16 + v) (variable_tests n size)) (refusal f)) count c.in_err-read_domain.ensures in
    rw (e.1, e.2) (first_each (domain_tests section) (length section) v (refusal f) c.loop-v-test.true c.loop-v.invariant.0 here)

pub loop-v-preserved : goal.loop-v-preserved
loop-v-preserved c =
    let section = c.args.section.now in
    let v = c.loop-v.v in
    let size = get_or section v 0 in
    let count = counted v (domains_of c.loop-v.layout) section (omega arith) c.loop-v.invariant.1 in
    let h = c.in_ok-read_domain.ensures in
    let here = subst (λ (n : ℕ). NoneFits (at_place (16 + v) (variable_tests n size))) count h.0 in (
      none_more (domain_tests section) v c.loop-v.invariant.0 here,
      h.1.0 ∙ ap (λ (ds : List ℕ). ds ++ (size ∷ [])) c.loop-v.invariant.1 ∙ sym (take_more section v 0 c.loop-v-test.true),
      h.1.1 ∙ c.loop-v.invariant.2,
    )
