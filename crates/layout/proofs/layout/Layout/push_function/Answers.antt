use Rattle.std.proofs.Common.{ℕ, List, map, length, set, sym, refl, ap, ◌∙◌, subst, arith}
use Rattle.std.proofs.lemmas.List.{length-set, length-map, length_push, map_push}
use Rattle.short_list.specs.View.{items_of}
use Rattle.short_list.proofs.Lengths.{few_items}
use Rattle.layout.specs.Scopes.{listed}
use Rattle.layout.specs.View.{domains_of}
use Rattle.layout.proofs.Shapes.{Fitting, fitting, fitting_function}
use Rattle.layout.proofs.layout.Layout.push_function.Goals as goal

pub invariant_of-self : goal.invariant_of-self
invariant_of-self c =
    let l = c.args.self.now in
    let s = c.args.scope in
    let more = ap (map listed) c.push.ensures ∙ map_push listed (items_of l.scopes) s in
    let at = c.len.ensures.long ∙ ap length c.push.ensures ∙ length_push (items_of l.scopes) s in
    let long = length-map (items_of l.scopes) listed in
    let fits = subst (λ (scopes : List (List ℕ)). Fitting (domains_of l) scopes (set l.starts c.len.result c.args.end)) (sym more)
    (fitting_function (fitting l) (listed s) c.len.result c.args.end (omega arith) (omega (arith, c.requires.room, l.room)) c.requires.end (c.requires.some, few_items s.variables) c.requires.known c.requires.small c.requires.few) in
    record { room = simp length-set l.room; sizes = fits.sizes; places = fits.places; known = fits.known; small = fits.small; few = fits.few; used = fits.used; placed = fits.placed }

pub returns : goal.returns
returns c = record { domains = refl; scopes = ap (map listed) c.push.ensures ∙ map_push listed (items_of c.args.self.now.scopes) c.args.scope }
