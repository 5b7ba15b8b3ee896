-- Each function with a link has a kept one. Assumes nothing.
use Rattle.std.proofs.Common.{◌≡◌, ℕ, ◌<◌, ◌≤◌, Bool, ◌↔◌, length, arith}
use Rattle.theory.specs.Graphs.{Uses, Joined, stay, along, back, every}
use Rattle.theory.proofs.Walks.{link_joins, joined_sym}
use Rattle.layout.specs.declared.layout.Layout.{Layout}
use Rattle.layout.specs.View.{domains_of}
use Rattle.forest.specs.FactorGraph.{layout_graph}
use Rattle.forest.proofs.FactorGraphs.{left_known}

-- A walk from a function to a variable begins with a link of the function.
first_link : (l : Layout) (K : ℕ → Bool) {a b : ℕ} → length (domains_of l) ≤ a → b < length (domains_of l) → Joined (layout_graph l) K a b →
    (m : ℕ) × Uses (layout_graph l) K m × ((layout_graph l).right m ≡ a)
first_link l K h k stay = absurd (omega arith)
first_link l K h k (along m u e j) = absurd (omega (arith, left_known l m u.there))
first_link l K h k (back m u e j) = (m, u, e)

pub function_kept : (l : Layout) (K : ℕ → Bool) → ((a b : ℕ) → Joined (layout_graph l) every a b ↔ Joined (layout_graph l) K a b) →
    (n : ℕ) → Uses (layout_graph l) every n → (m : ℕ) × Uses (layout_graph l) K m × ((layout_graph l).right m ≡ (layout_graph l).right n)
function_kept l K joins n u = first_link l K (omega arith) (left_known l n u.there) ((joins _ _).0 (joined_sym (link_joins n u)))
