use Rattle.std.proofs.Common.{◌≡◌, ℕ, ◌+◌, ◌*◌, ◌/◌, ◌<◌, ◌≤◌, length, sym, ap, ◌∙◌, subst, add-mul, mul-pos, one-mul, zero-mul, arith}
use Rattle.theory.proofs.Topmost.{upward}
use Rattle.weights.specs.declared.swings.Line.{Line}
use Rattle.weights.specs.Swings.{SwingFrom, Widest, base}
use Rattle.weights.proofs.Bases.{base_block, count, lines, next_block, some_stride, some_value}
use Rattle.weights.proofs.Running.{Leads, joined, read_at}
use Rattle.weights.proofs.swings.Line.widest_swing.Goals as goal

-- the blocks of a table
module _ (l : Line) where
  open l use {table, values, stride}

  whole : length table.now ≡ length table.now / (values * stride) * values * stride
  whole = lines values stride (length table.now) l.whole

  none_before : 0 * values * stride ≡ 0
  none_before = ap (λ (n : ℕ). n * stride) (zero-mul values) ∙ zero-mul stride

  next : (b : ℕ) → b * values * stride < length table.now → (b * values * stride + values * stride ≡ (b + 1) * values * stride) × ((b + 1) * values * stride ≤ length table.now)
  next b = next_block values stride _ b (length table.now) whole

  first_block : (values * stride ≡ 1 * values * stride) × (values * stride ≤ length table.now)
  first_block = let before = none_before in let after = next 0 (omega (arith, l.some)) in (omega arith, omega arith)

  some_block : 0 < values * stride
  some_block = mul-pos (some_value values stride _ (length table.now) whole l.some) (some_stride values stride _ (length table.now) whole l.some)

pub loop-from-init : goal.loop-from-init
loop-from-init g c =
    let w = g.V.Scale in
    let l = c.args.self in
    let block = c.widest_of_block-widest in
    let Swings = SwingFrom w.rules l.table.now l.values l.stride in
    let same = λ (k : ℕ) (h : k < l.stride). ap (λ (n : ℕ). n + k) (sym (none_before l)) ∙ sym (base_block l.values l.stride 0 k h) ∙ ap (base l.values l.stride) (omega (arith, zero-mul l.stride)) in
    let best = read_at Swings (λ k. 0 + k) (base l.values l.stride) l.stride block.result same (record { attained = block.ensures.value.attained; bound = block.ensures.value.bound; fine = block.ensures.within }) in
    (1, (first_block l).0, (first_block l).1, subst (λ (n : ℕ). Leads w.rules.leq w.means (w.within 2) (λ k. Swings (base l.values l.stride k)) n block.result) (sym (one-mul l.stride)) best)

pub widest_of_block-requires : goal.widest_of_block-requires
widest_of_block-requires g c =
    let (b, at, _, _) = c.loop-from.invariant in
    let more = next c.args.self b (omega (arith, at, c.loop-from-test.true)) in
    omega (arith, at)

pub overflow_add-from : goal.overflow_add-from
overflow_add-from g c =
    let (b, at, _, _) = c.loop-from.invariant in
    let more = next c.args.self b (omega (arith, at, c.loop-from-test.true)) in
    record { fits = omega (arith, at, c.args.self.small) }

pub loop-from-smaller : goal.loop-from-smaller
loop-from-smaller g c = omega (arith, some_block c.args.self, c.loop-from-test.true)

pub loop-from-preserved : goal.loop-from-preserved
loop-from-preserved g c =
    let w = g.V.Scale in
    let l = c.args.self in
    let Swings = SwingFrom w.rules l.table.now l.values l.stride in
    let (b, at, _, so_far) = c.loop-from.invariant in
    let more = next l b (omega (arith, at, c.loop-from-test.true)) in
    let block = c.widest_of_block in
    let same = λ (k : ℕ) (h : k < l.stride). ap (λ (n : ℕ). n + k) at ∙ sym (base_block l.values l.stride b k h) in
    let new = read_at Swings (λ k. c.loop-from.from + k) (λ k. base l.values l.stride (b * l.stride + k)) l.stride block.result same (record { attained = block.ensures.value.attained; bound = block.ensures.value.bound; fine = block.ensures.within }) in
    let best = joined (upward w.rules g.met.V.Scale.laws) w.means (w.within 2) (λ k. Swings (base l.values l.stride k)) (b * l.stride) l.stride c.loop-from.widest block.result so_far new c.higher-widest.result c.higher-widest.ensures in (
      b + 1,
      omega (arith, at),
      omega (arith, at),
      subst (λ (n : ℕ). Leads w.rules.leq w.means (w.within 2) (λ k. Swings (base l.values l.stride k)) n c.higher-widest.result) (omega (arith, add-mul b 1 l.stride, one-mul l.stride)) best,
    )

pub returns-clause-value : goal.returns-clause-value
returns-clause-value g c =
    let w = g.V.Scale in
    let l = c.args.self in
    let n = length l.table.now in
    let (b, at, inside, best) = c.loop-from.invariant in
    let end : n ≡ b * l.values * l.stride = omega (arith, at, inside, c.loop-from-test.false) in
    subst (λ (k : ℕ). Widest w.rules l.table.now l.values l.stride (base l.values l.stride) k (w.means c.loop-from.widest)) (sym (count l.values l.stride b n end l.some)) (record { attained = best.attained; bound = best.bound })
