-- The weights of the removed links. Assumes nothing.
use Rattle.std.specs.Prelude.{◌≡◌, ℕ, Bool, true, false, ◌&&◌, Some, None, Option, List, slice_index_or}
use Rattle.theory.specs.Graphs.{outside}
use Rattle.theory.specs.Kept.{kept_at}
use Rattle.layout.specs.declared.layout.Layout.{Layout}
use Rattle.forest.specs.FactorGraph.{layout_graph}

-- whether there is a link of the number n that is not kept, by the words of the kept links
abbrev pub is_removed : Layout → List ℕ → ℕ → Bool
is_removed l words n = (layout_graph l).present n && outside (kept_at words) n

-- What is given of the number n: if it is of a removed link, its weight, and else nothing.
abbrev pub RemovedWeight : {V : Type 0} → Layout → List ℕ → List V → ℕ → Option V → Type 0
RemovedWeight l words weights n None = is_removed l words n ≡ false
RemovedWeight {V} l words weights n (Some r) = (is_removed l words n ≡ true) × ((d : V) → r ≡ slice_index_or weights n d)
