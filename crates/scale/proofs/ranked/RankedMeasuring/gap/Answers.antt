use Rattle.std.proofs.Common.{sym, arith}
use Rattle.scale.specs.LexLaws.{pair_same}
use Rattle.scale.specs.Sums.{gapped_wrapped, wider}
use Rattle.scale.proofs.ranked.RankedMeasuring.gap.Goals as goal

pub returns-then-at_least : goal.returns-then-at_least
returns-then-at_least c = λ m n p q h.
    let first = gapped_wrapped _ _ _ _ _ _ p.0 q.0 (omega arith) (omega arith) c.minus.ensures.first in
    let second = gapped_wrapped _ _ _ _ _ _ p.1 q.1 (omega arith) (omega arith) c.minus.ensures.second in
    (rw (sym c.if-at_least.ensures) (pair_same _ _ first.0 second.0), (first.1, second.1))

pub returns-else-at_least : goal.returns-else-at_least
returns-else-at_least c = λ m n p q h.
    let s = c.neutral.ensures.within in
    (rw (sym c.if-at_least.ensures) c.neutral.ensures.means, (wider _ _ _ (omega arith) s.0, wider _ _ _ (omega arith) s.1))
