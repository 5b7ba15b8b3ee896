use Rattle.std.proofs.Common.{◌≡◌, ℕ, ◌+◌, ◌<◌, ◌≤◌, true, false, eqb, List, get_or, sym, refl, ap, ◌∙◌, subst, arith}
use Rattle.std.proofs.lemmas.Bool.{eq-eqb, eqb-true, ne_eqb}
use Rattle.board.specs.SameLent.{SameLent}
use Rattle.board.proofs.SameLent.{same_self, same_both}
use Rattle.theory.specs.Forest.{above}
use Rattle.theory.specs.Joins.{joins, when}
use Rattle.theory.specs.Problem.{functions, size}
use Rattle.tables.proofs.Ordered.{functions_length, within_sizes}
use Rattle.layout.specs.View.{domains_of, scopes_of}
use Rattle.joining.specs.Counts.{counts}
use Rattle.joining.specs.Standing.{StandsFor}
use Rattle.messages.specs.Rooted.{problem_in, kept_in, hanging_in}
use Rattle.messages.specs.Sending.{variable_cells}
use Rattle.messages.specs.Sent.{variable_cell, function_cell}
use Rattle.messages.specs.Upward.{OnlyAt}
use Rattle.joining.proofs.Counting.{joins_mono}
use Rattle.messages.proofs.Counting.{q_few}
use Rattle.joining.proofs.Joining.{started, stands_for, next_joined, next_passed, when_true, when_false}
use Rattle.messages.proofs.variables.send_variable.Goals as goal
use Rattle.messages.proofs.variables.send_variable.Goals.{then-parents-function, else-parents-function}

pub loop-function-init : goal.loop-function-init
loop-function-init g c =
    let v = g.V.Scale in
    let forest = c.args.forest.now in
    let P = problem_in forest in
    let H = hanging_in forest in
    let u = c.args.variable in (
      λ cut m n below x h d.
          let start = c.requires.neutral (variable_cell u x) (x, h, refl) d in
          started v.rules v.means v.within (λ f. when v.rules (eqb (above P H f) u) (m.r f x)) (λ f. when counts (eqb (above P H f) u) (n.r f x)) 0 start.exact start.few,
      λ k d apart. refl,
      same_self c.args.values.now,
    )

pub join_row-requires : goal.join_row-requires
unfolding size
join_row-requires g c =
    let forest = c.args.forest.now in
    let t = forest.tables.now in
    let fits = within_sizes t in
    let known : c.loop-function.function < functions (problem_in forest) = omega (arith, c.loop-function-test.true, c.functions-function-end.ensures, functions_length (domains_of t.layout) (scopes_of t.layout) t.words) in
    record {
      variable = omega (arith, c.requires.variable, fits.few_variables);
      function = omega (arith, fits.few_functions);
      size = subst (λ (ds : List ℕ). get_or ds c.args.variable 0 ≤ 16) (sym c.domains.ensures) (fits.small_domains c.args.variable c.requires.variable);
      values = omega (arith, c.requires.values, c.loop-function.invariant.2.rows);
    }

pub loop-function-preserved : goal.loop-function-preserved
unfolding size
loop-function-preserved g c =
    let v = g.V.Scale in
    let forest = c.args.forest.now in
    let t = forest.tables.now in
    let fits = within_sizes t in
    let P = problem_in forest in
    let H = hanging_in forest in
    let u = c.args.variable in
    let i = c.loop-function.function in
    let inv = c.loop-function.invariant in
    let before = c.args.values.now.cells.now in
    let cells = c.loop-function.values.cells.now in
    let known : i < functions P = omega (arith, c.loop-function-test.true, c.functions-function-end.ensures, functions_length (domains_of t.layout) (scopes_of t.layout) t.words) in
    let wide : get_or c.domains.result.now u 0 ≡ size P u = ap (λ (ds : List ℕ). get_or ds u 0) c.domains.ensures in
    elim c.if-parents-function.branch [
      | then-parents-function w ↦
          let on : eqb (above P H i) u ≡ true = eq-eqb (above P H i) u (sym (c.requires.parents i known) ∙ w.if-parents-function.true) in
          let told = w.join_row.ensures in
          let after = w.join_row.new.values in (
            λ cut m n below x h d.
                let e : ℕ → v.Exact = λ f. when v.rules (eqb (above P H f) u) (m.r f x) in
                let k : ℕ → ℕ = λ f. when counts (eqb (above P H f) u) (n.r f x) in
                let so_far = inv.0 cut m n below x h d in
                let low : x < 16 = omega (arith, fits.small_domains u c.requires.variable) in
                let unmoved : get_or cells (function_cell i x) d ≡ get_or before (function_cell i x) d = inv.1 (function_cell i x) d (λ (y, small, d). absurd (omega (arith, fits.small_domains u c.requires.variable, c.requires.variable, fits.few_variables))) in
                let new = subst (StandsFor v.means v.within (m.r i x) (n.r i x)) (sym unmoved) (below i known (eqb-true (above P H i) u on) x h d) in
                let all = n.variable u x c.requires.variable h in
                let few : joins counts (i + 1) k ≤ 1024 = omega (arith, joins_mono (i + 1) (functions P) k (omega arith), q_few P fits.sound (kept_in forest) H c.requires.rooted.well n u x c.requires.variable h, fits.few_functions, all) in
                subst (λ b. StandsFor v.means v.within (joins v.rules (i + 1) e) (joins counts (i + 1) k) (get_or b.cells.now (variable_cell u x) d)) (sym w.values-is)
                (next_joined v.rules v.means v.within e k i so_far
                (stands_for v.rules v.means v.within (sym (when_true v.rules (m.r i x) on)) (sym (when_true counts (n.r i x) on)) new)
                few (told.joined x d (subst (λ (s : ℕ). x < s) (sym wide) h))),
            subst (λ b. OnlyAt (variable_cells P u) before b.cells.now) (sym w.values-is)
                (λ k d apart. told.values k d (λ (x, low, is). apart (x, subst (λ (s : ℕ). x < s) wide low, is)) ∙ inv.1 k d apart),
            subst (SameLent c.args.values.now) (sym w.values-is) (same_both inv.2 told.same),
          )
      | else-parents-function w ↦
          let off : eqb (above P H i) u ≡ false = ne_eqb (above P H i) u (λ e. w.if-parents-function.false (c.requires.parents i known ∙ e)) in (
            λ cut m n below x h d.
                let e : ℕ → v.Exact = λ f. when v.rules (eqb (above P H f) u) (m.r f x) in
                let k : ℕ → ℕ = λ f. when counts (eqb (above P H f) u) (n.r f x) in
                subst (λ b. StandsFor v.means v.within (joins v.rules (i + 1) e) (joins counts (i + 1) k) (get_or b.cells.now (variable_cell u x) d)) (sym w.values-is)
                (next_passed v.rules v.means v.within e k i g.met.V.Scale.laws (inv.0 cut m n below x h d) (when_false v.rules (m.r i x) off) (when_false counts (n.r i x) off)),
            subst (λ b. OnlyAt (variable_cells P u) before b.cells.now) (sym w.values-is) inv.1,
            subst (SameLent c.args.values.now) (sym w.values-is) inv.2,
          )
    ]

pub returns : goal.returns
returns g c =
    let v = g.V.Scale in
    let forest = c.args.forest.now in
    let t = forest.tables.now in
    let P = problem_in forest in
    let H = hanging_in forest in
    let u = c.args.variable in
    let inv = c.loop-function.invariant in
    let end : c.loop-function.function ≡ functions P =
    omega (arith, c.loop-function-test.false, c.loop-function.auto.function-end, c.functions-function-end.ensures, functions_length (domains_of t.layout) (scopes_of t.layout) t.words) in
    record {
      sent = λ cut is_cut m n below x h d.
          let e : ℕ → v.Exact = λ f. when v.rules (eqb (above P H f) u) (m.r f x) in
          let k : ℕ → ℕ = λ f. when counts (eqb (above P H f) u) (n.r f x) in
          stands_for v.rules v.means v.within
          (ap (λ (i : ℕ). joins v.rules i e) end ∙ sym (m.variable u x c.requires.variable h))
          (ap (λ (i : ℕ). joins counts i k) end ∙ sym (n.variable u x c.requires.variable h))
          (inv.0 cut m n below x h d);
      values = inv.1;
      same = inv.2;
    }
