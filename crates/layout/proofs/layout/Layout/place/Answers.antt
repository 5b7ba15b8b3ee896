use Rattle.std.proofs.Common.{◌≡◌, ℕ, suc, ◌+◌, ◌*◌, ◌^◌, ◌<◌, ◌≤◌, List, [], ◌∷◌, map, length, get_or, take, sym, ap, ◌∙◌, subst, ap₂, mul-le-mul_left, add-one, arith}
use native.Mathlib.Nat.{pow-le-pow_right, pow-succ'}
use Rattle.std.proofs.lemmas.List.{length-map, map_push, take_more, take_all}
use Rattle.theory.specs.Problem.{index, product}
use Rattle.theory.proofs.Index.{Within, index_below, index_push}
use Rattle.layout.specs.declared.layout.Layout.{Layout}
use Rattle.layout.specs.Scopes.{sizes_of, values_of, InDomains}
use Rattle.layout.specs.View.{domains_of}
use Rattle.layout.proofs.layout.Layout.place.Goals as goal

-- the place so far, with one place more
grown : (place size value i : ℕ) → place ≤ 255 * 17 ^ i → size ≤ 16 → value ≤ 255 → place * size + value ≤ 255 * 17 ^ (i + 1)
grown place size value i few small low =
    let more : 17 ^ (i + 1) ≡ 17 * 17 ^ i = ap (λ (n : ℕ). 17 ^ n) (add-one i) ∙ pow-succ' 17 i in
    let some : 1 ≤ 17 ^ i = pow-le-pow_right {n = 17} (omega arith) {i = 0} {j = i} (omega arith) in
    omega (arith, mul-le-mul_left {m = size} {n = 16} place small)

-- four places
bounded : (n i : ℕ) → i ≤ 4 → n ≤ 255 * 17 ^ i → n ≤ 21297855
bounded n i four few = let all : 17 ^ i ≤ 17 ^ 4 = pow-le-pow_right (omega arith) four in omega arith

-- one place more in both lists
index_more : (domains plan scope : List ℕ) (i : ℕ) → i < length scope →
    index (sizes_of domains (take i scope)) (values_of plan (take i scope)) * get_or domains (get_or scope i 0) 0 + get_or plan (get_or scope i 0) 0
    ≡ index (sizes_of domains (take (i + 1) scope)) (values_of plan (take (i + 1) scope))
index_more domains plan scope i h =
    let size = λ (v : ℕ). get_or domains v 0 in
    let value = λ (v : ℕ). get_or plan v 0 in
    let here = get_or scope i 0 in
    sym (index_push (map size (take i scope)) (map value (take i scope)) (size here) (value here) (length-map (take i scope) size ∙ sym (length-map (take i scope) value)))
    ∙ ap₂ index (sym (map_push size (take i scope) here)) (sym (map_push value (take i scope) here))
    ∙ ap (λ (s : List ℕ). index (sizes_of domains s) (values_of plan s)) (sym (take_more scope i 0 h))

size_few : (l : Layout) (ds : List ℕ) → ds ≡ domains_of l → (v : ℕ) → v < length (domains_of l) → get_or ds v 0 ≤ 16
size_few l ds e v h = rw e (l.sizes v h).1

within : (domains plan scope : List ℕ) → InDomains domains scope plan → Within (sizes_of domains scope) (values_of plan scope)
within domains plan [] fits = tt
within domains plan (v ∷ scope) fits = (fits 0 (omega arith), within domains plan scope (λ p h. fits (suc p) (omega arith)))

pub overflow_mul-place : goal.overflow_mul-place
overflow_mul-place c =
    let i = c.loop-variable.variable-index in
    let ds = c.domains-domains.result.now in
    let v = get_or c.args.scope.now i 0 in
    let low = size_few c.args.self.now ds c.domains-domains.ensures v (c.requires.known i c.loop-variable-test.true) in
    let step = grown c.loop-variable.place (get_or ds v 0) 0 i c.loop-variable.invariant.1 low (omega arith) in
    record { fits = omega (arith, bounded _ (i + 1) (omega (arith, c.requires.few)) step) }

pub overflow_add-place : goal.overflow_add-place
overflow_add-place c =
    let i = c.loop-variable.variable-index in
    let ds = c.domains-domains.result.now in
    let v = get_or c.args.scope.now i 0 in
    let low = size_few c.args.self.now ds c.domains-domains.ensures v (c.requires.known i c.loop-variable-test.true) in
    let step = grown c.loop-variable.place (get_or ds v 0) (get_or c.args.plan v 0) i c.loop-variable.invariant.1 low (omega arith) in
    record { fits = omega (arith, bounded _ (i + 1) (omega (arith, c.requires.few)) step) }

pub loop-variable-preserved : goal.loop-variable-preserved
loop-variable-preserved c =
    let i = c.loop-variable.variable-index in
    let ds = c.domains-domains.result.now in
    let scope = c.args.scope.now in
    let v = get_or scope i 0 in
    let low = size_few c.args.self.now ds c.domains-domains.ensures v (c.requires.known i c.loop-variable-test.true) in (
      ap (λ (n : ℕ). n * get_or ds v 0 + get_or c.args.plan v 0) c.loop-variable.invariant.0 ∙ index_more ds c.args.plan scope i c.loop-variable-test.true,
      grown c.loop-variable.place (get_or ds v 0) (get_or c.args.plan v 0) i c.loop-variable.invariant.1 low (omega arith),
    )

pub returns : goal.returns
returns c =
    let ds = domains_of c.args.self.now in
    let scope = c.args.scope.now in
    let all = take_all c.loop-variable.variable-index scope c.loop-variable-test.false in
    let is = c.loop-variable.invariant.0 ∙ ap₂ (λ (domains s : List ℕ). index (sizes_of domains s) (values_of c.args.plan s)) c.domains-domains.ensures all in
    record {
      value = is;
      inside = λ fits. subst (λ (n : ℕ). n < product (sizes_of ds scope)) (sym is) (index_below (sizes_of ds scope) (values_of c.args.plan scope) (within ds c.args.plan scope fits));
    }
