use Rattle.std.proofs.Common.{◌≡◌, ℕ, ◌*◌, ◌<◌, Bool, true, false, get_or, Decides, MatchBool, refl, ◌∙◌, subst, zero-add, arith, rules}
use Rattle.std.specs.List.{range_with_len}
use Rattle.std.proofs.lemmas.Bool.{both_ways}
use Rattle.std.proofs.lemmas.Iterator.{YieldsList-from_range, cases_from_any}
use Rattle.std.proofs.lemmas.List.FromFn.{get_or-range_with_len, length-range_with_len}
use Rattle.theory.specs.Kept.{kept_at}
use Rattle.forest.specs.FactorGraph.{layout_graph}
use Rattle.forest.proofs.FactorGraphs.{present_below, layout_whole}
use Rattle.forest.proofs.LeftOut.{cycle_if_out, none_if_all}
use Rattle.forest.proofs.cycles.leaves_out.Goals as goal

told : {P N C : Type 0} → (P → C) → (N → C → ⊥) → (r : Bool) → MatchBool r P N → Decides r C
told in_some in_all true h = (λ _. in_some h, λ _. refl)
told in_some in_all false h = (λ e. absurd (both_ways false refl e), λ x. absurd (in_all h x))

pub returns : goal.returns
returns c =
    let l = c.args.layout.now in
    let G = layout_graph l in
    let K = kept_at c.args.links.now.words in
    let count = 4 * c.functions.result in
    told
    (λ some.
    let n = get_or (range_with_len 0 count) some.0 0 in
    let out : (G.present n ≡ true) × (K n ≡ false) = some.2 0 in
    cycle_if_out G (layout_whole l) K c.requires n (present_below l n out.0) out.0 out.1)
    (λ all. none_if_all G (layout_whole l) K c.requires (λ n there.
    let small : n < count = omega (arith, present_below l n there, c.functions.ensures) in
    let at : G.present (get_or (range_with_len 0 count) n 0) ≡ true → K (get_or (range_with_len 0 count) n 0) ≡ true = all n 0 (omega arith) (omega (arith, small, length-range_with_len 0 count)) in
    subst (λ (m : ℕ). G.present m ≡ true → K m ≡ true) (get_or-range_with_len 0 count n 0 small ∙ zero-add n) at there))
    c.any.result
    (cases_from_any _ _ _ (λ n. (G.present n ≡ true) × (K n ≡ false)) (λ n. G.present n ≡ true → K n ≡ true) c.any.ensures.ran
    (YieldsList-from_range 0 count count refl (omega arith)) (λ n q k. search rules) (λ n q k. search rules))
