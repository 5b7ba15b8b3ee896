use Rattle.std.proofs.Common.{sym, ◌∙◌}
use Rattle.layout.specs.View.{domains_of, scopes_of}
use Rattle.tables.proofs.Ordered.{scopes_from}
use Rattle.tables.proofs.comparing.same_shape.Goals as goal

pub returns : goal.returns
returns c =
    let a = c.args.ours.now in
    let b = c.args.theirs.now in
    let sa = scopes_from (domains_of a.layout) (scopes_of a.layout) a.words in
    let sb = scopes_from (domains_of b.layout) (scopes_of b.layout) b.words in
    (λ e. let h = c.same.ensures.0 e in (h.0, sa ∙ h.1 ∙ sym sb), λ h. c.same.ensures.1 (h.0, sym sa ∙ h.1 ∙ sb))
