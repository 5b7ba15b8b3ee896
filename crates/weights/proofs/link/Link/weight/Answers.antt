use Rattle.std.proofs.Common.{ℕ, ◌*◌, length, sym, ap, ◌∙◌, ap₂, arith}
use Rattle.tables.proofs.Ordered.{within_sizes}
use Rattle.tables.specs.View.{problem_of}
use Rattle.weights.proofs.Bases.{multiple}
use Rattle.weights.proofs.Weighing.{before, whole, some_word, weighs}
use Rattle.weights.proofs.link.Link.weight.Goals as goal

pub invariant_of-line : goal.invariant_of-line
invariant_of-line g c =
    let l = c.args.self in
    let P = problem_of l.tables.now in
    let fits = within_sizes l.tables.now in
    let long = ap length c.table-table.ensures in
    let earlier = before P fits.sound l.function l.known l.place l.inside in
    record {
      some = omega (arith, long, some_word P fits.sound l.function l.known l.place l.inside);
      whole = multiple c.args.values c.args.stride earlier _ (long ∙ whole P fits.sound l.function l.known l.place l.inside ∙ ap₂ (λ (v s : ℕ). earlier * v * s) (sym c.requires.values) (sym c.requires.stride));
      small = omega (arith, long, fits.small_tables l.function l.known);
    }

pub returns : goal.returns
returns g c =
    let v = g.V.Scale in
    let l = c.args.self in
    let t = l.tables.now in
    record {
      value = weighs (problem_of t) (within_sizes t).sound l.function l.known l.place l.inside v.rules
          c.table-table.result.now c.args.values c.args.stride (v.means c.widest_swing.result) c.table-table.ensures c.requires.values c.requires.stride c.widest_swing.ensures.value;
      within = c.widest_swing.ensures.within;
    }
