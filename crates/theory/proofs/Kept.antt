-- The links that the rule keeps form no cycle, join all that the links join, and are fixed by the rule. Any strict order
-- of the links will do here. Assumes nothing.
use Rattle.std.proofs.Common.{◌≡◌, ℕ, ◌<◌, ◌≤◌, Bool, true, false, ◌&&◌, ◌↔◌, Decides, refl, ⊎_elim}
use Rattle.std.proofs.lemmas.Bool.{both_ways, not-true, not-false, cases_Bool, and_from}
use Rattle.std.proofs.lemmas.Bool.Decides.{same_from_decides}
use Rattle.theory.specs.Graphs.{Graph, Whole, Uses, Joined, Cycle, Clears, every, outside}
use Rattle.theory.proofs.Tally.{links_in}
use Rattle.theory.proofs.Sets.{Within, both, uses_in, both_left, both_right}
use Rattle.theory.proofs.Walks.{joined_over, joined_within, link_joins}
use Rattle.theory.proofs.Labels.{decide_joined}
use Rattle.theory.proofs.Orders.{Order}
use Rattle.theory.proofs.Peels.{Closed, before_closed}
use Rattle.theory.proofs.Forests.{Growing, Forest, growing_within, forest, forest_smaller, growing_if_acyclic, acyclic_if_growing}

-- The rule, over any order.
abbrev pub Kept_by : Graph → (ℕ → ℕ → Bool) → (ℕ → Bool) → Type 0
Kept_by G first K =
    (n : ℕ) → n < G.links → G.present n ≡ true →
    (K n ≡ true) ↔ (Joined G (λ m. K m && first m n) (G.left n) (G.right n) → ⊥)

module _ {G : Graph} {first : ℕ → ℕ → Bool} (whole : Whole G) (order : Order first) (K : ℕ → Bool) (keeps : Kept_by G first K) where
  kept_growing : Growing G first K
  kept_growing m u j = (keeps m u.below u.there).0 u.chosen j

  pub kept_clears : Clears G (outside K)
  kept_clears = acyclic_if_growing whole order _ (growing_within first K (λ n u. not-false (K n) (not-true (outside K n) u.chosen)) kept_growing)

  pub kept_forest : (E : ℕ → Bool) → Forest G (both K E)
  kept_forest E = forest whole order (both K E) (growing_within first K (both_left K E) kept_growing)

  -- What is not kept has its ends joined by kept links before it.
  pub skipped_joined : (n : ℕ) → Uses G every n → K n ≡ false → Joined G (both K (λ m. first m n)) (G.left n) (G.right n)
  skipped_joined n u e =
      ⊎_elim (λ j. j) (λ f. absurd (both_ways (K n) e ((keeps n u.below u.there).1 f)))
      (decide_joined (G.left n) (G.right n) (kept_forest (λ m. first m n)).labels)

  pub kept_spans : (E : ℕ → Bool) → Closed G first E → {a b : ℕ} → Joined G E a b → Joined G (both K E) a b
  kept_spans E closed j = joined_over each j
    where
      earlier : (n : ℕ) → Uses G E n → Within G (both K (λ m. first m n)) (both K E)
      earlier n u m s = and_from (K m) (E m) (both_left K _ m s) (closed n m u (uses_in every s refl) (both_right K (λ k. first k n) m s))

      each : (n : ℕ) → Uses G E n → Joined G (both K E) (G.left n) (G.right n)
      each n u = ⊎_elim
          (λ e. link_joins n (uses_in (both K E) u (and_from (K n) (E n) e u.chosen)))
          (λ e. joined_within (earlier n u) (skipped_joined n (uses_in every u refl) e))
          (cases_Bool (K n))

  pub kept_most : (F E : ℕ → Bool) → (Cycle G F → ⊥) → Closed G first E → links_in G (both F E) ≤ links_in G (both K E)
  kept_most F E acyclic closed =
      forest_smaller (forest whole order (both F E) (growing_within first F (both_left F E) (growing_if_acyclic whole order F acyclic))) (kept_forest E)
      (λ a b j. kept_spans E closed (joined_within (both_right F E) j))

  -- A link is kept exactly if all the links before it, kept or not, do not join its ends.
  kept_if_apart : (n : ℕ) → Uses G every n → Decides (K n) (Joined G (λ m. first m n) (G.left n) (G.right n) → ⊥)
  kept_if_apart n u = (
    λ e j. (keeps n u.below u.there).0 e (kept_spans (λ m. first m n) (before_closed first order n) j),
    λ f. (keeps n u.below u.there).1 (λ j. f (joined_within (both_right K (λ m. first m n)) j)),
  )

  pub kept_joins : (a b : ℕ) → Joined G every a b ↔ Joined G K a b
  kept_joins a b = (λ j. joined_within (both_left K every) (kept_spans every (λ _ _ _ _ _. refl) j), joined_within (λ _ _. refl))

pub kept_unique : {G : Graph} {first : ℕ → ℕ → Bool} → Whole G → Order first → (K L : ℕ → Bool) → Kept_by G first K → Kept_by G first L →
    (n : ℕ) → Uses G every n → K n ≡ L n
kept_unique whole order K L keeps-K keeps-L n u = same_from_decides (K n) (L n) (kept_if_apart whole order K keeps-K n u) (kept_if_apart whole order L keeps-L n u)
