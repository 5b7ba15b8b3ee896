use Rattle.std.proofs.Common.{◌≡◌, ℕ, ◌+◌, ◌<◌, ◌≤◌, List, length, get_or, set, sym, ◌∙◌, subst, inl, inr, arith}
use Rattle.std.proofs.lemmas.List.{get_or-set_same, get_or-set_other}
use Rattle.std.proofs.lemmas.Bool.{cases_eq}
use Rattle.board.proofs.SameLent.{same_both}
use Rattle.scale.specs.Rules.{Rules}
use Rattle.joining.specs.Standing.{JoinOf}
use Rattle.messages.specs.Sent.{variable_cell, function_cell}
use Rattle.messages.specs.Upward.{OnlyAt}
use Rattle.messages.proofs.variables.join_row.Goals as goal

-- one value more of the row
module _ {V E : Type 0} (R : Rules E) (means : V → E) (within : ℕ → V → Type 0) (v f x : ℕ) (v_low : v < 64) (x-low : x < 16) (before cells : List V) (room : 2048 ≤ length cells)
    (joined : (y : ℕ) (d : V) → y < x → JoinOf R means within (get_or before (variable_cell v y) d) (get_or before (function_cell f y) d) (get_or cells (variable_cell v y) d))
    (only : OnlyAt (λ k. (y : ℕ) × (y < x) × (k ≡ variable_cell v y)) before cells)
    (old new sum : V) (old-is : (d : V) → old ≡ get_or cells (variable_cell v x) d) (New-is : (d : V) → new ≡ get_or cells (function_cell f x) d) (is : JoinOf R means within old new sum) where
  joined_next : (y : ℕ) (d : V) → y < x + 1 → JoinOf R means within (get_or before (variable_cell v y) d) (get_or before (function_cell f y) d) (get_or (set cells (variable_cell v x) sum) (variable_cell v y) d)
  joined_next y d h = elim (cases_eq y x) [
    | inl e ↦
        let there = get_or-set_same cells (variable_cell v x) sum d (omega arith) in
        let left = old-is d ∙ only (variable_cell v x) d (λ (z, low, k). absurd (omega arith)) in
        let right = New-is d ∙ only (function_cell f x) d (λ (z, low, k). absurd (omega arith)) in
        subst (λ (z : ℕ). JoinOf R means within (get_or before (variable_cell v z) d) (get_or before (function_cell f z) d) (get_or (set cells (variable_cell v x) sum) (variable_cell v z) d)) (sym e)
        (subst (JoinOf R means within (get_or before (variable_cell v x) d) (get_or before (function_cell f x) d)) (sym there)
        (subst (λ (a : V). JoinOf R means within a (get_or before (function_cell f x) d) sum) left (subst (λ (a : V). JoinOf R means within old a sum) right is)))
    | inr apart ↦
        subst (JoinOf R means within (get_or before (variable_cell v y) d) (get_or before (function_cell f y) d)) (sym (get_or-set_other cells (variable_cell v x) (variable_cell v y) sum d (λ e. apart (omega arith))))
        (joined y d (omega arith))
  ]

  only_next : OnlyAt (λ k. (y : ℕ) × (y < x + 1) × (k ≡ variable_cell v y)) before (set cells (variable_cell v x) sum)
  only_next k d apart =
      get_or-set_other cells (variable_cell v x) k sum d (λ e. apart (x, omega arith, e))
      ∙ only k d (λ (y, low, e). apart (y, omega arith, e))

pub loop-x-preserved : goal.loop-x-preserved
loop-x-preserved g c =
    let v = g.V.Scale in
    let inv = c.loop-x.invariant in
    let cells = c.loop-x.values.cells.now in
    let before = c.args.values.now.cells.now in
    let u = c.args.variable in
    let f = c.args.function in
    let x = c.loop-x.x in
    let sum = c.join-sum.result in
    let low : x < 16 = omega (arith, c.requires.size, c.loop-x-test.true) in
    let room : 2048 ≤ length cells = let whole = c.loop-x.values.whole in omega (arith, c.requires.values, inv.2.rows) in
    let after = c.put.ensures.after in
    let joined = joined_next v.rules v.means v.within u f x c.requires.variable low before cells room inv.0 inv.1 c.get.result c.get-in-loop-x.result sum
    c.get.ensures c.get-in-loop-x.ensures c.join-sum.ensures in
    let only = only_next v.rules v.means v.within u f x c.requires.variable low before cells room inv.0 inv.1 c.get.result c.get-in-loop-x.result sum
    c.get.ensures c.get-in-loop-x.ensures c.join-sum.ensures in (
      subst (λ (cs : List g.row.V.Denot). (y : ℕ) (d : g.row.V.Denot) → y < x + 1 → JoinOf v.rules v.means v.within (get_or before (variable_cell u y) d) (get_or before (function_cell f y) d) (get_or cs (variable_cell u y) d)) (sym after) joined,
      subst (OnlyAt (λ k. (y : ℕ) × (y < x + 1) × (k ≡ variable_cell u y)) before) (sym after) only,
      same_both inv.2 c.put.ensures.same,
    )

pub returns : goal.returns
returns g c =
    let v = g.V.Scale in
    let inv = c.loop-x.invariant in
    let end : c.loop-x.x ≡ c.args.size = omega (arith, c.loop-x-test.false, c.loop-x.auto.x-end) in
    record {
      joined = λ x d h. inv.0 x d (omega arith);
      values = λ k d apart. inv.1 k d (λ (x, low, e). apart (x, omega arith, e));
      same = inv.2;
    }
