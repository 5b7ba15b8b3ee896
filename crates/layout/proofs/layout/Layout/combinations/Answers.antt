use Rattle.std.proofs.Common.{◌≡◌, ℕ, suc, ◌*◌, ◌^◌, ◌<◌, ◌≤◌, Option, List, [], ◌∷◌, map, length, get_or, sym, ap, ◌∙◌, subst, mul_assoc, mul-le-mul, one-mul, mul-one, arith, rules}
use native.Mathlib.Nat.{pow-le-pow_right, pow-succ'}
use Rattle.std.specs.Iterator.{Yields}
use Rattle.std.specs.Iterator.Runs.{EachRunFrom, YieldsRun}
use Rattle.std.specs.List.{fold}
use Rattle.std.proofs.lemmas.Iterator.{YieldsList, YieldsList-from_slice, YieldsList-from_map}
use Rattle.std.proofs.lemmas.Iterator.Adapters.{serves_from_places, total_from_yields_List}
use Rattle.std.proofs.lemmas.Iterator.Consumers.{YieldsList-at, YieldsList-so_far}
use Rattle.std.proofs.lemmas.List.{get_or_default, get_or-map, get_or-take, length-map, length-take, map-id}
use Rattle.theory.specs.Problem.{product}
use Rattle.theory.specs.Sizes.{Known}
use Rattle.layout.specs.declared.layout.Layout.{Layout}
use Rattle.layout.specs.View.{domains_of}
use Rattle.layout.proofs.layout.Layout.combinations.Goals as goal

-- a product from a first factor on
multiplied : (n : ℕ) (xs : List ℕ) → fold (λ (a x : ℕ). a * x) n xs ≡ n * product xs
multiplied n [] = sym (mul-one n)
multiplied n (x ∷ xs) = multiplied (n * x) xs ∙ mul_assoc n x (product xs)

-- a product of factors of at most 16, at most four of them
bounded : (xs : List ℕ) → ((k : ℕ) → k < length xs → get_or xs k 0 ≤ 16) → product xs ≤ 16 ^ length xs
bounded [] small = omega arith
bounded (x ∷ xs) small = rw (pow-succ' 16 (length xs)) (mul-le-mul (small 0 (omega arith)) (bounded xs (λ k h. small (suc k) (omega arith))))

four : (xs : List ℕ) → length xs ≤ 4 → ((k : ℕ) → k < length xs → get_or xs k 0 ≤ 16) → product xs ≤ 65536
four xs few small = let most : 16 ^ length xs ≤ 16 ^ 4 = pow-le-pow_right (omega arith) few in let all = bounded xs small in omega arith

-- no product along the way is larger
fits_along : {S : Type 0} {steps : S → Option ℕ → S → Type 0} {all : List ℕ} (s : S) → YieldsList steps (λ x. x) s all → length all ≤ 4 → ((k : ℕ) → k < length all → get_or all k 0 ≤ 16) →
    EachRunFrom steps s (λ p. fold (λ (a x : ℕ). a * x) 1 p.items < 2 ^ 64)
unfolding YieldsRun
fits_along {steps = steps} {all} s road few small = λ p seen at.
    let xs = p.items in
    let is = sym (map-id xs) ∙ YieldsList-so_far road xs p.gave.0.0 (subst (λ u. Yields steps u xs p.gave.0.0) at p.gave.0.1) in
    let long = ap length is ∙ length-take (length xs) all in
    let low = four xs (omega arith) (λ k h. let under = small k (omega arith) in rw is (rw (get_or-take (length xs) all k 0 h) under)) in
    omega (arith, multiplied 1 xs, one-mul (product xs))

sizes_few : (l : Layout) (scope : List ℕ) → Known (length (domains_of l)) scope → (k : ℕ) → k < length (map (λ (v : ℕ). get_or (domains_of l) v 0) scope) → get_or (map (λ (v : ℕ). get_or (domains_of l) v 0) scope) k 0 ≤ 16
sizes_few l scope known k h =
    let size = λ (v : ℕ). get_or (domains_of l) v 0 in
    let inside : k < length scope = let long = length-map scope size in omega arith in
    rw (get_or-map size scope k 0 0 inside) (l.sizes (get_or scope k 0) (known k inside)).1

pub product-requires-clause-can : goal.product-requires-clause-can
product-requires-clause-can c =
    let l = c.args.self.now in
    let scope = c.args.scope.now in (
      tt,
      serves_from_places (YieldsList-at c.map.ensures.source (YieldsList-from_slice scope cc)) (λ x q s. search rules) (λ x k h e.
          let is = e ∙ get_or_default scope k x.now 0 h in
          let there = (c.requires.known k h) in
          search rules),
    )

pub product-requires-clause-fits : goal.product-requires-clause-fits
product-requires-clause-fits c =
    let l = c.args.self.now in
    let scope = c.args.scope.now in
    let size = λ (v : ℕ). get_or (domains_of l) v 0 in
    let long = length-map scope size in
    fits_along c.map.result (YieldsList-from_map _ size (YieldsList-at c.map.ensures.source (YieldsList-from_slice scope cc)) c.map.ensures.closure (λ x r q k. search rules))
    (omega (arith, c.requires.few)) (sizes_few l scope c.requires.known)

pub returns : goal.returns
returns c =
    let l = c.args.self.now in
    let scope = c.args.scope.now in
    let size = λ (v : ℕ). get_or (domains_of l) v 0 in
    let sizes = map size scope in
    let long = length-map scope size in
    let is = total_from_yields_List (λ (a x : ℕ). a * x) 1 c.product.result c.product.ensures.ran
    (YieldsList-from_map _ size (YieldsList-at c.map.ensures.source (YieldsList-from_slice scope cc)) c.map.ensures.closure (λ x r q k. search rules))
    ∙ multiplied 1 sizes ∙ one-mul (product sizes) in
    let low = four sizes (omega (arith, c.requires.few)) (sizes_few l scope c.requires.known) in
    record { value = is; bound = omega arith }
