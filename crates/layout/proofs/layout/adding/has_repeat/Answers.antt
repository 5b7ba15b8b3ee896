use Rattle.std.proofs.Common.{◌≡◌, ◌==◌, ℕ, ◌+◌, ◌<◌, List, Bool, true, false, MatchBool, length, get_or, take, sym, ap, ◌∙◌, arith, rules, tests}
use Rattle.std.specs.List.{list_any, enumerate_from}
use Rattle.std.proofs.lemmas.Bool.{eqb-true, eq-eqb, false≢true}
use Rattle.std.proofs.lemmas.Iterator.{YieldsList-from_slice}
use Rattle.std.proofs.lemmas.Iterator.Consumers.{YieldsList-at, YieldsList-from_enumerate}
use Rattle.std.proofs.lemmas.Iterator.Search.{any_from_yields_List}
use Rattle.std.proofs.lemmas.List.{get_or-take, get_or_default, length-take}
use Rattle.std.proofs.lemmas.List.FromFn.{get_or-enumerate_from, length-enumerate_from}
use Rattle.std.proofs.lemmas.List.Folds.{Any-from_list_any, list_any_at}
use Rattle.layout.specs.Scopes.{NoneTwice}
use Rattle.layout.proofs.layout.adding.has_repeat.Goals as goal

-- whether the variable at a place stands before it too
unfoldable stands_before : List ℕ → ℕ × ℕ → Bool
stands_before scope x = list_any (λ y. y == x.1) (take x.0 scope)

told : (scope : List ℕ) (r : Bool) → r ≡ list_any (stands_before scope) (enumerate_from 0 scope) →
    MatchBool r ((p q : ℕ) × (p < q) × (q < length scope) × (get_or scope p 0 ≡ get_or scope q 0)) (NoneTwice scope)
unfolding stands_before
told scope true e =
    let long = length-enumerate_from 0 scope in
    let twice = Any-from_list_any (stands_before scope) (enumerate_from 0 scope) (sym e) in
    let x = twice.1 in
    let found = Any-from_list_any (λ y. y == x.1) (take x.0 scope) twice.4 in
    let cut = length-take x.0 scope in
    let is = sym twice.3 ∙ get_or-enumerate_from 0 scope twice.0 x (omega arith) in
    let place = ap (λ (y : ℕ × ℕ). y.0) is in (
      found.0,
      twice.0,
      omega arith,
      omega arith,
      get_or_default scope found.0 0 found.1 (omega arith) ∙ sym (get_or-take x.0 scope found.0 found.1 (omega arith)) ∙ found.3
          ∙ eqb-true found.1 x.1 found.4 ∙ ap (λ (y : ℕ × ℕ). y.1) is ∙ get_or_default scope twice.0 x.1 0 (omega arith),
    )
told scope false e = λ p q before h same.
    let long = length-enumerate_from 0 scope in
    let cut = length-take (0 + q) scope in
    let v = get_or scope q 0 in
    let found : stands_before scope (0 + q, get_or scope q v) ≡ true =
    list_any_at (λ y. y == get_or scope q v) (take (0 + q) scope) p 0 (omega arith) (eq-eqb _ _ (get_or-take (0 + q) scope p 0 (omega arith) ∙ same ∙ get_or_default scope q 0 v h)) in
    absurd (false≢true (e ∙ list_any_at (stands_before scope) (enumerate_from 0 scope) q (q, v) (omega arith) (ap (stands_before scope) (get_or-enumerate_from 0 scope q (q, v) h) ∙ found)))

pub returns : goal.returns
unfolding stands_before
returns c =
    let scope = c.args.scope.now in
    told scope c.any.result (any_from_yields_List (stands_before scope) _ _ c.any.result c.any.ensures.ran
    (YieldsList-from_enumerate (YieldsList-at c.enumerate.ensures.source (YieldsList-from_slice scope cc)) c.enumerate.ensures.count)
    (λ x b q k. search (rules, tests)))
