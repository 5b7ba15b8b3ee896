use Rattle.std.proofs.Common.{◌≡◌, ℕ, ◌+◌, ◌-◌, ◌*◌, ◌<◌, ◌≤◌, List, length, get_or, take, drop, sym, ap, ◌∙◌, subst, ap₂, mul-le-mul, mul-one, arith}
use Rattle.std.proofs.lemmas.List.{get_or-drop, get_or-take, length-drop, length-take-le}
use Rattle.tables.proofs.Ordered.{scope_is, within_sizes}
use Rattle.tables.specs.View.{problem_of}
use Rattle.theory.specs.Problem.{Problem, function, functions, arity}
use Rattle.theory.specs.Sizes.{Fits}
use Rattle.layout.specs.View.{domains_of, scope_in}
use Rattle.weights.specs.declared.link.Link.{Link}
use Rattle.weights.specs.Swings.{values_at, stride_at}
use Rattle.weights.proofs.Bases.{factor, short_stride, some_stride}
use Rattle.weights.proofs.Strides.{from_place, value_is, one_more, past_last}
use Rattle.weights.proofs.Weighing.{before, whole, some_word}
use Rattle.weights.proofs.link.Link.stride.Goals as goal

-- the combinations of the later places: some, and no more than the table has entries
within_table : (P : Problem) → Fits P → (f : ℕ) → f < functions P → (p : ℕ) → p < arity P f → (0 < stride_at P f p) × (stride_at P f p ≤ 1024)
within_table P fits f known p place =
    let n = length (function P f).words in
    let all = whole P fits.sound f known p place in
    let word = some_word P fits.sound f known p place in
    let short = short_stride (values_at P f p) (stride_at P f p) (before P fits.sound f known p place) n all word in
    let small = fits.small_tables f known in
    (some_stride (values_at P f p) (stride_at P f p) (before P fits.sound f known p place) n all word, omega arith)

-- the later places of a scope, and the size of each by the domains of the layout
module _ (l : Link) (domains scope : List ℕ) (same_domains : domains ≡ domains_of l.tables.now.layout) (same_scope : scope ≡ scope_in l.tables.now.layout l.function) where
  abbrev later : List ℕ
  later = take (length scope - (l.place + 1)) (drop (l.place + 1) scope)

  places : length scope ≡ arity (problem_of l.tables.now) l.function
  places = ap length (same_scope ∙ sym (scope_is l.tables.now l.function))

  here : l.place < length scope
  here = omega (arith, l.inside, places)

  later_long : length later ≡ length scope - (l.place + 1)
  later_long = let rest = length-drop (l.place + 1) scope in length-take-le (length scope - (l.place + 1)) (drop (l.place + 1) scope) (omega arith)

  later_is : (i : ℕ) → i < length later → get_or later i 0 ≡ get_or scope (l.place + 1 + i) 0
  later_is i h = let long = later_long in get_or-take (length scope - (l.place + 1)) (drop (l.place + 1) scope) i 0 (omega arith) ∙ get_or-drop (l.place + 1) scope i 0

  later_value : (i : ℕ) → i < length later → get_or domains (get_or later i 0) 0 ≡ values_at (problem_of l.tables.now) l.function (l.place + 1 + i)
  later_value i h = ap (λ (v : ℕ). get_or domains v 0) (later_is i h) ∙ value_is l.tables.now l.function domains scope same_domains same_scope (l.place + 1 + i)

pub overflow_add-variable-items : goal.overflow_add-variable-items
overflow_add-variable-items c =
    let there = here c.args.self _ _ c.domains-domains.ensures c.scope-scope.ensures.list in
    record { fits = omega (arith, c.scope-scope.ensures.few) }

pub slice_bounds-variable-items-count : goal.slice_bounds-variable-items-count
slice_bounds-variable-items-count c = omega (arith, here c.args.self _ _ c.domains-domains.ensures c.scope-scope.ensures.list)

pub slice_bounds-variable-items-start : goal.slice_bounds-variable-items-start
slice_bounds-variable-items-start c = omega (arith, here c.args.self _ _ c.domains-domains.ensures c.scope-scope.ensures.list)

pub bounds-domains-variable : goal.bounds-domains-variable
bounds-domains-variable c =
    let l = c.args.self in
    let i = c.loop-variable.variable-index in
    let scope = c.scope-scope.result.now in
    let at = later_is l _ scope c.domains-domains.ensures c.scope-scope.ensures.list i c.loop-variable-test.true in
    let long = later_long l _ scope c.domains-domains.ensures c.scope-scope.ensures.list in
    let known = c.scope-scope.ensures.known (l.place + 1 + i) (omega (arith, c.loop-variable-test.true)) in
    subst (λ (v : ℕ). v < length c.domains-domains.result.now) (sym at) (omega (arith, ap length c.domains-domains.ensures))

pub overflow_mul-stride : goal.overflow_mul-stride
overflow_mul-stride c =
    let l = c.args.self in
    let P = problem_of l.tables.now in
    let bounds = within_table P (within_sizes l.tables.now) l.function l.known l.place l.inside in
    let few = factor c.loop-variable.stride (from_place P l.function (l.place + 1 + c.loop-variable.variable-index)) _ c.loop-variable.invariant bounds.0 in
    let v = get_or (later l _ c.scope-scope.result.now c.domains-domains.ensures c.scope-scope.ensures.list) c.loop-variable.variable-index 0 in
    let small : get_or c.domains-domains.result.now v 0 ≤ 255 = omega (arith, (c.type_inv.domains v).fits) in
    record { fits = omega (arith, mul-le-mul few small, bounds.1) }

pub loop-variable-preserved : goal.loop-variable-preserved
loop-variable-preserved c =
    let l = c.args.self in
    let P = problem_of l.tables.now in
    let i = c.loop-variable.variable-index in
    let value = later_value l c.domains-domains.result.now c.scope-scope.result.now c.domains-domains.ensures c.scope-scope.ensures.list i c.loop-variable-test.true in
    let long = later_long l _ c.scope-scope.result.now c.domains-domains.ensures c.scope-scope.ensures.list in
    let all = places l _ c.scope-scope.result.now c.domains-domains.ensures c.scope-scope.ensures.list in
    let more = one_more P (within_sizes l.tables.now).sound l.function l.known (l.place + 1 + i) (omega (arith, c.loop-variable-test.true)) c.loop-variable.stride _ c.loop-variable.invariant in
    ap₂ (λ (m q : ℕ). c.loop-variable.stride * m * from_place P l.function q) value (omega arith) ∙ more

pub returns : goal.returns
returns c =
    let l = c.args.self in
    let P = problem_of l.tables.now in
    let i = c.loop-variable.variable-index in
    let long = later_long l _ c.scope-scope.result.now c.domains-domains.ensures c.scope-scope.ensures.list in
    let all = places l _ c.scope-scope.result.now c.domains-domains.ensures c.scope-scope.ensures.list in
    let last : from_place P l.function (l.place + 1 + i) ≡ 1 = past_last P l.function (l.place + 1 + i) (omega (arith, c.loop-variable-test.false)) in
    sym (mul-one c.loop-variable.stride) ∙ ap (λ (n : ℕ). c.loop-variable.stride * n) (sym last) ∙ c.loop-variable.invariant
