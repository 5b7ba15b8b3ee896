use Rattle.std.proofs.Common.{sym, ap, ap₂, ◌∙◌, w32, arith, rules}
use Rattle.std.proofs.Math.IntN.{ℤ}
use mir.Val.{SFits}
use Rattle.std.proofs.lemmas.Int.{to_z-of_z}
use Rattle.std.proofs.lemmas.List.{get_or-map}
use Rattle.ffi.proofs.Cells.{shown_more}
use Rattle.ffi.proofs.values.show_values.Goals as goal

pub loop-n-preserved : goal.loop-n-preserved
loop-n-preserved g c =
    let s = g.V.Scale in
    let n = c.loop-n.n in
    let values = c.args.values.now in
    let pair = c.show-first.result in
    let first : SFits w32 pair.0 = search rules in
    let second : SFits w32 pair.1 = search rules in
    let cell = get_or-map s.means values n c.index-values-n.result s.rules.neutral c.loop-n-test.true ∙ ap s.means (sym c.index-values-n.is) in
    shown_more _ n c.loop-n.shown _ _ (omega arith)
    (ap₂ (λ (a b : ℤ). (a, b)) (to_z-of_z w32 pair.0 first) (to_z-of_z w32 pair.1 second) ∙ c.show-first.ensures ∙ ap s.rules.shown (sym cell))
    c.loop-n.invariant
