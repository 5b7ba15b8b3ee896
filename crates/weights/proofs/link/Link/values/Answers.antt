use Rattle.std.proofs.Common.{length, ap, arith}
use Rattle.weights.proofs.Strides.{place_in, value_is}
use Rattle.weights.proofs.link.Link.values.Goals as goal

pub bounds-scope-self : goal.bounds-scope-self
bounds-scope-self c =
    let l = c.args.self in
    place_in l.tables.now l.function c.scope-scope.result.now c.scope-scope.ensures.list l.place l.inside

pub bounds-domains-scope : goal.bounds-domains-scope
bounds-domains-scope c =
    let l = c.args.self in
    let here = place_in l.tables.now l.function c.scope-scope.result.now c.scope-scope.ensures.list l.place l.inside in
    omega (arith, c.scope-scope.ensures.known l.place here, ap length c.domains-domains.ensures)

pub returns : goal.returns
returns c =
    let l = c.args.self in
    value_is l.tables.now l.function c.domains-domains.result.now c.scope-scope.result.now c.domains-domains.ensures c.scope-scope.ensures.list l.place
