use Rattle.std.proofs.Common.{◌≡◌, ℕ, ◌+◌, ◌-◌, ◌≢◌, ◌==◌, Bool, not, List, length, get_or, drop, sym, ap, ◌∙◌, subst, rules, tests, arith}
use Rattle.std.proofs.lemmas.Bool.Decides.{Decides-at, Decides-eqb, Decides-not}
use Rattle.std.proofs.lemmas.Grind.{get_or_default_zero}
use Rattle.std.proofs.lemmas.Iterator.{YieldsList-from_slice}
use Rattle.std.proofs.lemmas.Iterator.Adapters.{YieldsList-from_skip}
use Rattle.std.proofs.lemmas.Iterator.Search.{any_from_yields_List}
use Rattle.std.proofs.lemmas.List.{get_or-drop, length-drop, take_all}
use Rattle.std.proofs.lemmas.List.Folds.{Any-from_list_any, list_any_at}
use Rattle.std.specs.Bool.{Decides}
use Rattle.std.specs.List.{list_any}
use Rattle.std.specs.Slice.Iter.{iter_rest}
use Rattle.file.specs.Tests.{UnusedUsed}
use Rattle.file.proofs.scopes.uses_unused.Goals as goal

abbrev differs : ℕ → Bool
differs x = not (x == 255)

differs_Decides : (x : ℕ) → Decides (differs x) (x ≢ 255)
differs_Decides x = Decides-not (x == 255) (Decides-eqb x 255)

-- the bytes behind a record's size and as many variables
abbrev unused : List ℕ → List ℕ
unused bs = drop (get_or bs 0 0) (drop 1 bs)

module _ (bs : List ℕ) (long : length bs ≡ 5) where
  unused_at : (k : ℕ) → get_or (unused bs) k 0 ≡ get_or bs (1 + (get_or bs 0 0 + k)) 0
  unused_at k = get_or-drop (get_or bs 0 0) (drop 1 bs) k 0 ∙ get_or-drop 1 bs (get_or bs 0 0 + k) 0

  unused_long : length (unused bs) ≡ 4 - get_or bs 0 0
  unused_long = let rest = length-drop 1 bs in let last = length-drop (get_or bs 0 0) (drop 1 bs) in omega arith

  any_Decides : Decides (list_any differs (unused bs)) (UnusedUsed bs)
  any_Decides = (
    λ some.
        let (k, x, low, at, is) = Any-from_list_any differs (unused bs) some in
        let byte : x ≡ get_or bs (1 + (get_or bs 0 0 + k)) 0 = sym at ∙ get_or_default_zero (unused bs) k x low ∙ unused_at k in
        (get_or bs 0 0 + k, omega arith, omega (arith, low, unused_long), subst (λ (y : ℕ). y ≢ 255) byte ((differs_Decides x).0 is)),
    λ (p, low, high, other).
        let k = p - get_or bs 0 0 in
        let byte : get_or (unused bs) k 0 ≡ get_or bs (1 + p) 0 = unused_at k ∙ ap (λ (i : ℕ). get_or bs (1 + i) 0) (omega arith) in
        list_any_at differs (unused bs) k 0 (omega (arith, unused_long)) ((differs_Decides (get_or (unused bs) k 0)).1 (subst (λ (y : ℕ). y ≢ 255) (sym byte) other)),
  )

pub returns : goal.returns
returns c =
    let bs = c.args.bytes.now in
    let rest : iter_rest c.skip.result.iter ≡ drop 1 bs = ap iter_rest c.skip.ensures.source ∙ c.iter.ensures.rest ∙ take_all 4 (drop 1 bs) (omega (arith, length-drop 1 bs)) in
    let yields = YieldsList-from_skip (get_or bs 0 0) (YieldsList-from_slice (drop 1 bs) rest) c.skip.ensures.count in
    let is : c.any.result ≡ list_any differs (unused bs) = any_from_yields_List differs _ _ _ c.any.ensures.ran yields (λ x b q k. search (rules, tests)) in
    Decides-at c.any.result (list_any differs (unused bs)) is (any_Decides bs (omega arith))
