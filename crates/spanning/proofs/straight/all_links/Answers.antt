use Rattle.std.proofs.Common.{◌+◌, ◌<◌, ◌≤◌, sym, ◌∙◌, subst, ⊎_elim, arith}
use Rattle.std.proofs.lemmas.Bool.{cases_Bool, cases_lt}
use Rattle.theory.specs.Kept.{kept_at}
use Rattle.layout.proofs.Shapes.{few_functions}
use Rattle.forest.specs.declared.links.Links.{Links}
use Rattle.forest.specs.FactorGraph.{layout_graph}
use Rattle.forest.proofs.FactorGraphs.{present_below}
use Rattle.spanning.proofs.AllLinks.{Upto, upto_none, upto_skip, upto_more}
use Rattle.spanning.proofs.straight.all_links.Goals as goal
use Rattle.spanning.proofs.straight.all_links.Goals.{then-is_link, else-is_link}

pub loop-link-init : goal.loop-link-init
loop-link-init c = upto_none (layout_graph c.args.layout.now).present _ c.none-links.ensures

pub loop-link-preserved : goal.loop-link-preserved
loop-link-preserved c =
    let present = (layout_graph c.args.layout.now).present in
    let kept = kept_at c.loop-link.links.words in
    let n = c.loop-link.link in
    elim c.if-is_link.branch [
      | then-is_link w ↦ subst (λ (s : Links). Upto present (kept_at s.words) (n + 1)) (sym w.links-is)
          (upto_more present kept n c.loop-link.invariant _ (cc) (w.keep.ensures.within c.loop-link-test.true))
      | else-is_link w ↦ subst (λ (s : Links). Upto present (kept_at s.words) (n + 1)) (sym w.links-is) (upto_skip present kept n c.loop-link.invariant (cc))
    ]

pub returns : goal.returns
returns c = λ n.
    let l = c.args.layout.now in
    let inv = c.loop-link.invariant in
    ⊎_elim
    (λ (low : n < c.loop-link.link). inv.each n low)
    (λ (high : c.loop-link.link ≤ n). inv.rest n high ∙ sym (⊎_elim
    (λ there. absurd (omega (arith, present_below l n there, few_functions l)))
    (λ none. none)
    (cases_Bool ((layout_graph l).present n))))
    (cases_lt n c.loop-link.link)
