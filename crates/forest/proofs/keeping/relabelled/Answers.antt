use Rattle.std.proofs.Common.{◌≡◌, ◌<◌, ◌≤◌, length, get_or, slice_set, sym, refl, ap, ◌∙◌, ⊎_elim, arith, rules}
use Rattle.std.proofs.lemmas.List.{get_or_past, get_or_default, get_or-set_same, get_or-set_other, length-set}
use Rattle.std.proofs.lemmas.Bool.{cases_eq, cases_lt, cond-false, ne_eqb}
use Rattle.forest.specs.Labelled.{relabel}
use Rattle.forest.proofs.keeping.relabelled.Goals as goal

pub loop-a-init : goal.loop-a-init
loop-a-init c =
    let long : length c.args.labels ≡ 128 = search rules in
    (long, λ k d h. absurd (omega arith), λ k d h. refl)

pub loop-a-preserved : goal.loop-a-preserved
loop-a-preserved c =
    let inv = c.loop-a.invariant in
    let a = c.loop-a.a in
    let labels = c.loop-a.labels in
    let low : a < length labels = omega (arith, c.loop-a-test.true, inv.0) in
    let new = c.relabel.result in
    let told = c.relabel.ensures in (
      length-set labels a new ∙ inv.0,
      λ k d h. ⊎_elim
          (λ (here : k ≡ a).
          ap (λ n. get_or (slice_set labels a new) n d) here
          ∙ get_or-set_same labels a new d low ∙ told
          ∙ ap (relabel c.args.low c.args.high) (get_or_default labels a 0 d low ∙ inv.2 a d (omega arith) ∙ sym (ap (λ n. get_or c.args.labels n d) here)))
          (λ apart. get_or-set_other labels a k new d apart ∙ inv.1 k d (omega (arith, apart)))
          (cases_eq k a),
      λ k d h. get_or-set_other labels a k new d (λ e. omega arith) ∙ inv.2 k d (omega arith),
    )

pub returns : goal.returns
returns c = λ a.
    let labels = c.args.labels in
    let inv = c.loop-a.invariant in
    let end : c.loop-a.a ≡ 128 = omega (arith, c.loop-a-test.false, c.loop-a.auto.a-end) in
    let long : length labels ≡ 128 = search rules in
    ⊎_elim
    (λ (lt : a < 128). inv.1 a a (omega arith))
    (λ (le : 128 ≤ a).
    get_or_past c.loop-a.labels a a (omega (arith, inv.0))
    ∙ sym (ap (relabel c.args.low c.args.high) (get_or_past labels a a (omega (arith, long))) ∙ cond-false _ _ _ (ne_eqb a c.args.high (λ e. omega (arith, c.requires)))))
    (cases_lt a 128)
