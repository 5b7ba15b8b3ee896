use Rattle.std.proofs.Common.{ℕ, List, get_or, ap, arith}
use Rattle.layout.proofs.Shapes.{few_variables}
use Rattle.figures.proofs.roots.highest_message.Goals as goal

pub highest-requires : goal.highest-requires
highest-requires g c =
    let l = c.args.layout.now in
    let v = c.args.variable in
    let known = c.requires.known in
    let same = ap (λ (ds : List ℕ). get_or ds v 0) c.domains.ensures in
    let (some, few) = l.sizes v known in
    record { row = omega (arith, few_variables l, c.requires.rows); some = omega arith; few = omega arith }
