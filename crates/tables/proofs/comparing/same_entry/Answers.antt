use Rattle.std.proofs.Common.{◌≡◌, true, sym, ap, ◌∙◌, ⊎_elim}
use Rattle.scale.specs.Rules.{Rules}
use Rattle.scale.specs.Laws.{Plain}
use Rattle.tables.proofs.comparing.same_entry.Goals as goal

-- a value is at least as high as itself
leq_self : {E : Type 0} (R : Rules E) → Plain R → (a b : E) → a ≡ b → R.leq a b ≡ true
leq_self {E} R laws a b e = ap (λ (x : E). R.leq a x) (sym e) ∙ ⊎_elim (λ h. h) (λ h. h) (laws.total a a)

pub returns-then-at_least : goal.returns-then-at_least
returns-then-at_least g c =
    let R = g.V.Scale.rules in
    let laws = g.met.V.Scale.laws in
    let a = c.value_of-a.ensures.means in
    let b = c.value_of-b.ensures.means in (
      λ (e : c.at_least-then-at_least.result ≡ true).
          sym a ∙ laws.antisym _ _ (sym c.at_least-then-at_least.ensures ∙ e) (sym c.if-at_least.ensures) ∙ b,
      λ e. c.at_least-then-at_least.ensures ∙ leq_self R laws _ _ (a ∙ e ∙ sym b),
    )
