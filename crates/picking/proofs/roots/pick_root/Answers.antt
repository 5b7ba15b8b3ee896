use Rattle.std.proofs.Common.{◌≡◌, ℕ, ◌<◌, Bool, true, false, not, List, get_or, Some, None, Option, sym, refl, ap, ◌∙◌, subst, arith}
use Rattle.std.specs.Option.{is_some}
use Rattle.std.proofs.lemmas.Bool.{both_ways}
use Rattle.theory.specs.Problem.{size}
use Rattle.theory.specs.Forest.{no_parent, is_root}
use Rattle.layout.specs.View.{domains_of}
use Rattle.tables.specs.declared.tables.Tables.{Tables}
use Rattle.tables.specs.View.{problem_of}
use Rattle.tables.proofs.Ordered.{within_sizes}
use Rattle.hanging.specs.declared.node.Variable.{Variable}
use Rattle.hanging.specs.declared.hung.Hung.{Hung}
use Rattle.hanging.specs.Forest.{hanging_of}
use Rattle.hanging.specs.Hung.{variable_at}
use Rattle.picking.specs.Steps.{LowestBest, RootGiven}
use Rattle.picking.proofs.Handing.{root_given}
use Rattle.picking.proofs.roots.pick_root.Goals as goal

-- Whether a variable is a root is whether it has no parent.
root_test : (h : Hung) (v : ℕ) (x : Variable) (root : Bool) → x ≡ variable_at h v → is_some x.parent ≡ not root → is_root (hanging_of h) v ≡ root
root_test h v x root here test = ap (λ (y : Variable). no_parent y.parent) (sym here) ∙ by_parent x.parent root test
  where
    by_parent : (o : Option ℕ) (b : Bool) → is_some o ≡ not b → no_parent o ≡ b
    by_parent None true e = refl
    by_parent None false e = cc
    by_parent (Some f) true e = cc
    by_parent (Some f) false e = refl

-- how many values the variable has
size_is : (t : Tables) (v : ℕ) (domains : List ℕ) → domains ≡ domains_of t.layout → get_or domains v 0 ≡ size (problem_of t) v
unfolding size
size_is t v domains e = ap (λ (ds : List ℕ). get_or ds v 0) e

pub lowest_best-requires : goal.lowest_best-requires
lowest_best-requires g c =
    let t = c.args.forest.now.tables.now in
    let v = c.args.variable in
    let fits = within_sizes t in
    let is = size_is t v c.domains.result.now c.domains.ensures in
    record {
      row = omega (arith, c.requires.known, c.requires.rows, fits.few_variables);
      some = omega (arith, is, fits.sound.nonempty v c.requires.known);
      small = omega (arith, is, fits.small_domains v c.requires.known);
    }

pub give-requires : goal.give-requires
give-requires g c =
    let t = c.args.forest.now.tables.now in
    let v = c.args.variable in
    let fits = within_sizes t in
    let is = size_is t v c.domains.result.now c.domains.ensures in
    record {
      variable = omega (arith, c.requires.known, fits.few_variables);
      value = omega (arith, is, c.lowest_best.ensures.fits, fits.small_domains v c.requires.known);
    }

pub returns-then-is_none : goal.returns-then-is_none
returns-then-is_none g c =
    let t = c.args.forest.now.tables.now in
    let v = c.args.variable in
    let s = g.V.Scale in
    let H = hanging_of c.args.forest.now.hung.now in
    let cells = c.args.values.now.cells.now in
    let plan = c.args.draft.now in
    let best = subst (λ (n : ℕ). LowestBest s.rules s.means cells v n c.lowest_best.result) (size_is t v c.domains.result.now c.domains.ensures) c.lowest_best.ensures in
    let root = root_test c.args.forest.now.hung.now v c.variable.result c.is_none.result c.variable.ensures c.is_none.ensures ∙ c.if-is_none.true in
    let known : v < 64 = omega (arith, c.requires.known, (within_sizes t).few_variables) in
    subst (RootGiven s.rules s.means (problem_of t) H cells v plan.values) (sym c.give.ensures)
    (root_given s.rules s.means (problem_of t) H cells v c.lowest_best.result plan.values (omega (arith, plan.small.long)) root best)

pub returns-else-is_none : goal.returns-else-is_none
returns-else-is_none g c =
    let inner = root_test c.args.forest.now.hung.now c.args.variable c.variable.result c.is_none.result c.variable.ensures c.is_none.ensures ∙ c.if-is_none.false in
    record {
      root = λ root. absurd (both_ways (is_root (hanging_of c.args.forest.now.hung.now) c.args.variable) inner root);
      others = λ u free. refl;
    }
