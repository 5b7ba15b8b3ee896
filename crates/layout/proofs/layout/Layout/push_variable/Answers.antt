use Rattle.std.proofs.Common.{List, sym, subst}
use Rattle.layout.specs.View.{scopes_of}
use Rattle.layout.proofs.Shapes.{Fitting, fitting, fitting_variable}
use Rattle.layout.proofs.layout.Layout.push_variable.Goals as goal

pub invariant_of-self : goal.invariant_of-self
invariant_of-self c =
    let l = c.args.self.now in
    let fits = subst (λ (domains : List _). Fitting domains (scopes_of l) l.starts) (sym c.push.ensures) (fitting_variable (fitting l) c.args.size c.requires.some c.requires.small) in
    record { room = l.room; sizes = fits.sizes; places = fits.places; known = fits.known; small = fits.small; few = fits.few; used = fits.used; placed = fits.placed }
