use Rattle.std.proofs.Common.{◌≡◌, ℕ, ◌+◌, ◌<◌, Bool, List, length, get_or, sym, ap, ◌∙◌, subst, ap₂, inl, inr, arith}
use Rattle.std.proofs.lemmas.Bool.{cases_eq}
use Rattle.std.proofs.lemmas.List.{get_or_append_left, get_or_push, length_push}
use Rattle.theory.specs.Forest.{hangs}
use Rattle.theory.specs.Problem.{size, arity, at}
use Rattle.hanging.specs.Forest.{hanging_of}
use Rattle.short_list.specs.View.{items_of}
use Rattle.tables.specs.View.{problem_of}
use Rattle.tables.proofs.Ordered.{scope_is, within_sizes}
use Rattle.messages.specs.declared.place.Place.{Place}
use Rattle.messages.specs.Place.{Small, no_place}
use Rattle.messages.proofs.places.Places.gathered.Goals as goal

pub loop-p-init : goal.loop-p-init
loop-p-init c = (ap length c.empty-list.ensures, λ p h. absurd (omega arith))

pub push-requires : goal.push-requires
push-requires c = omega (arith, c.loop-p.invariant.0, c.loop-p-test.true, c.scope-variable-items.ensures.few)

-- places with the same parts
same_place : {v v' s s' : ℕ} {k k' b b' : Bool} → v ≡ v' → s ≡ s' → k ≡ k' → b ≡ b' →
    ◌≡◌ {A = Place} (record { variable = v; size = s; kept = k; below = b }) (record { variable = v'; size = s'; kept = k'; below = b' })
same_place d e f g = cc

pub loop-p-preserved : goal.loop-p-preserved
unfolding size at
loop-p-preserved c =
    let t = c.args.tables.now in
    let list = items_of c.loop-p.list in
    let p = c.loop-p.p in
    let long = c.loop-p.invariant.0 in
    let new = c.push.ensures in
    let is = ap (λ (s : List ℕ). get_or s p 0) (c.scope-variable-items.ensures.list ∙ sym (scope_is t c.args.function)) in
    let here = same_place is (ap₂ (λ (ds : List ℕ) (v : ℕ). get_or ds v 0) c.domains.ensures is) c.holds.ensures
    (c.hangs_from.ensures ∙ ap (λ (v : ℕ). hangs ((hanging_of c.args.hung.now).var_parent v) c.args.function) is) in (
      ap length new ∙ length_push list _ ∙ ap (λ (n : ℕ). n + 1) long,
      λ q h. elim (cases_eq q p) [
        | inl e ↦ rw e (ap (λ (places : List Place). get_or places p no_place) new ∙ get_or_push list _ no_place p long ∙ here)
        | inr d ↦ ap (λ (places : List Place). get_or places q no_place) new ∙ get_or_append_left list _ no_place q (omega arith) ∙ c.loop-p.invariant.1 q (omega arith)
      ],
    )

pub place_of-requires : goal.place_of-requires
place_of-requires c = omega (arith, c.requires, (within_sizes c.args.tables.now).few_functions)

pub invariant_of-result : goal.invariant_of-result
invariant_of-result c =
    let t = c.args.tables.now in
    let f = c.args.function in
    let P = problem_of t in
    let fits = within_sizes t in
    let long = ap length (c.scope-variable-items.ensures.list ∙ sym (scope_is t f)) in
    record {
      small = λ p h.
          let inside : p < c.loop-p.p = omega (arith, c.loop-p.invariant.0) in
          let here : p < arity P f = omega (arith, c.loop-p.auto.p-end) in
          let known = fits.sound.known f p c.requires here in
          subst Small (sym (c.loop-p.invariant.1 p inside)) (omega (arith, fits.few_variables), fits.sound.nonempty (at P f p) known, fits.small_domains (at P f p) known);
    }

pub returns : goal.returns
returns c =
    let t = c.args.tables.now in
    let long = ap length (c.scope-variable-items.ensures.list ∙ sym (scope_is t c.args.function)) in
    record {
      count = omega (arith, c.loop-p.invariant.0, c.loop-p-test.false, c.loop-p.auto.p-end);
      parent = c.place_of.ensures;
      each = λ p h. c.loop-p.invariant.1 p (omega (arith, c.loop-p-test.false));
    }
