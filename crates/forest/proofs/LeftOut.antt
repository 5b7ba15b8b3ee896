-- A graph has a cycle exactly if, as the links are kept in the order of their numbers, one is left out. Assumes nothing.
use Rattle.std.proofs.Common.{◌≡◌, ℕ, ◌<◌, Bool, true, false, ltb, refl}
use Rattle.theory.specs.Graphs.{Graph, Whole, Uses, Cycle, every}
use Rattle.theory.proofs.Sets.{both_right, without_other}
use Rattle.theory.proofs.Walks.{joined_within}
use Rattle.theory.proofs.Forests.{growing_within, acyclic_if_growing}
use Rattle.theory.proofs.Kept.{skipped_joined}
use Rattle.theory.proofs.Parts.{number_order}
use Rattle.forest.specs.Along.{KeptByNumber}

module _ (G : Graph) (whole : Whole G) (K : ℕ → Bool) (kept : KeptByNumber G K) where
  pub cycle_if_out : (n : ℕ) → n < G.links → G.present n ≡ true → K n ≡ false → Cycle G every
  cycle_if_out n below there out =
      let uses : Uses G every n = record { below = below; there = there; chosen = refl } in
      record {
        link = n;
        uses = uses;
        around = joined_within (λ m v. without_other every n m (number_order.apart m n (both_right K (λ k. ltb k n) m v))) (skipped_joined whole number_order K kept n uses out);
      }

  pub none_if_all : ((n : ℕ) → G.present n ≡ true → K n ≡ true) → Cycle G every → ⊥
  none_if_all all =
      acyclic_if_growing whole number_order every
      (growing_within ltb K (λ n u. all n u.there) (λ m u j. (kept m u.below u.there).0 u.chosen j))
