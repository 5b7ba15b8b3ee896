use Rattle.std.proofs.Common.{◌≡◌, ℕ, ◌+◌, ◌*◌, ◌<◌, length, get_or, sym, ap, ◌∙◌, subst, arith}
use Rattle.theory.specs.Joins.{Highest, Lowest}
use Rattle.theory.proofs.Topmost.{upward, downward}
use Rattle.weights.specs.declared.swings.Line.{Line}
use Rattle.weights.specs.Swings.{along}
use Rattle.weights.proofs.Bases.{lines, some_value}
use Rattle.weights.proofs.Running.{first, next, highest_of, lowest_of}
use Rattle.weights.proofs.swings.Line.swing.Goals as goal

-- a line has some value
some : (l : Line) → 0 < l.values
some l = some_value l.values l.stride _ (length l.table.now) (lines l.values l.stride (length l.table.now) l.whole) l.some

pub offset_bounds-self-from : goal.offset_bounds-self-from
offset_bounds-self-from g c = record { fits = omega (arith, c.requires 0 (some c.args.self), c.args.self.small) }

pub bounds-self-from : goal.bounds-self-from
bounds-self-from g c = omega (arith, c.requires 0 (some c.args.self))

pub loop-x-init : goal.loop-x-init
loop-x-init g c =
    let v = g.V.Scale in
    let laws = g.met.V.Scale.laws in
    let l = c.args.self in
    let high = c.value_of-high.result in
    let entry = along v.rules l.table.now l.stride c.args.from in
    let start : c.args.from + 0 * l.stride ≡ c.args.from = omega arith in
    let is : entry 0 ≡ v.means high = ap (λ (i : ℕ). v.rules.reads (get_or l.table.now i 0)) start ∙ sym c.value_of-high.ensures.means in
    let fine = c.value_of-high.ensures.within in (
      first (upward v.rules laws) v.means (v.within 1) (λ x e. entry x ≡ e) (λ a b d e. sym d ∙ e) high is fine,
      first (downward v.rules laws) v.means (v.within 1) (λ x e. entry x ≡ e) (λ a b d e. sym d ∙ e) high is fine,
    )

pub loop-x-preserved : goal.loop-x-preserved
loop-x-preserved g c =
    let v = g.V.Scale in
    let laws = g.met.V.Scale.laws in
    let l = c.args.self in
    let new = c.value_of-value.result in
    let entry = along v.rules l.table.now l.stride c.args.from in
    let is = sym c.value_of-value.ensures.means in
    let fine = c.value_of-value.ensures.within in (
      next (upward v.rules laws) v.means (v.within 1) (λ x e. entry x ≡ e) c.loop-x.x (λ a b d e. sym d ∙ e) c.loop-x.high new c.loop-x.invariant.0 is fine c.higher-high.result c.higher-high.ensures,
      next (downward v.rules laws) v.means (v.within 1) (λ x e. entry x ≡ e) c.loop-x.x (λ a b d e. sym d ∙ e) c.loop-x.low new c.loop-x.invariant.1 is fine c.lower-low.result c.lower-low.ensures,
    )

pub returns : goal.returns
returns g c =
    let v = g.V.Scale in
    let R = v.rules in
    let l = c.args.self in
    let inv = c.loop-x.invariant in
    let entry = along R l.table.now l.stride c.args.from in
    let end : c.loop-x.x ≡ l.values = omega (arith, c.loop-x.auto.x-end (some l)) in
    let gap = c.gap.ensures 1 1 inv.0.fine inv.1.fine (omega arith) in
    record {
      value = record {
        high = v.means c.loop-x.high;
        low = v.means c.loop-x.low;
        highest = subst (λ (n : ℕ). Highest R (λ x. x < n) entry (v.means c.loop-x.high)) end (highest_of R v.means (v.within 1) entry c.loop-x.x c.loop-x.high inv.0);
        lowest = subst (λ (n : ℕ). Lowest R (λ x. x < n) entry (v.means c.loop-x.low)) end (lowest_of R v.means (v.within 1) entry c.loop-x.x c.loop-x.low inv.1);
        is = sym gap.0;
      };
      within = gap.1;
    }
