use Rattle.std.proofs.Common.{refl}
use Rattle.theory.specs.Keeping.{before}
use Rattle.theory.proofs.Orders.{before_order}
use Rattle.theory.proofs.Kept as kept
use Rattle.theory.proofs.LeftOut.{parts_known, left_out_count}
use Rattle.theory.proofs.Weighed.{lightest_set}
use Rattle.theory.proofs.Exists.{chosen, chosen_kept}
use Rattle.theory.proofs.kept_links.Goals as goal

pub returns : goal.returns
returns g c = record {
  exists = λ R laws G whole w. let order = before_order laws w in (chosen G (before R.leq w) whole order, chosen_kept G (before R.leq w) whole order);
  clears = λ R laws G whole w K keeps. kept.kept_clears whole (before_order laws w) K keeps;
  spans = λ R laws G whole w K keeps. kept.kept_joins whole (before_order laws w) K keeps;
  lightest = λ R laws G whole w positive K keeps C clears. lightest_set R laws G whole w positive K keeps C clears;
  unique = λ R laws G whole w K L keeps-K keeps-L n below there.
      kept.kept_unique whole (before_order laws w) K L keeps-K keeps-L n (record { below = below; there = there; chosen = refl });
  parts = parts_known;
  counted = λ R laws G whole w K keeps. left_out_count whole (before_order laws w) K keeps;
}
