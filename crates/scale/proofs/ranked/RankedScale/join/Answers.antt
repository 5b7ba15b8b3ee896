use Rattle.std.proofs.Common.{arith}
use Rattle.scale.specs.LexLaws.{pair_same}
use Rattle.scale.specs.Sums.{summed_wrapped}
use Rattle.scale.proofs.ranked.RankedScale.join.Goals as goal

pub returns : goal.returns
returns c = λ m n p q h.
    let first = summed_wrapped _ _ _ _ _ _ p.0 q.0 (omega arith) (omega arith) c.plus.ensures.first in
    let second = summed_wrapped _ _ _ _ _ _ p.1 q.1 (omega arith) (omega arith) c.plus.ensures.second in
    (pair_same _ _ first.0 second.0, (first.1, second.1))
