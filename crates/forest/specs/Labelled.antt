-- One link considered, where each node has the label of its part. Assumes nothing.
use Rattle.std.specs.Prelude.{◌≡◌, ℕ, ◌<◌, Bool, true, cond, ◌||◌, ◌⊎◌, List, ◌==◌, slice_index_or}
use Rattle.theory.specs.Graphs.{Graph}

-- the label of a node; a node without one is its own
abbrev pub label_in : List ℕ → ℕ → ℕ
label_in labels a = slice_index_or labels a a

-- the labels after one of them is given up for another
abbrev pub relabel : ℕ → ℕ → ℕ → ℕ
relabel low high label = cond (label == high) low label

-- From the kept links K and the labels to those after the link n is considered.
module _ (G : Graph) (n : ℕ) (K K' : ℕ → Bool) (label label' : ℕ → ℕ) where
  -- It joins two parts: it is kept, and both parts have the lower label.
  pub record Merges : Type 0 where
    pub low : ℕ
    pub high : ℕ
    pub under : low < high
    pub there : G.present n ≡ true
    pub ends : ((label (G.left n) ≡ low) × (label (G.right n) ≡ high)) ⊎ ((label (G.left n) ≡ high) × (label (G.right n) ≡ low))
    pub kept : (m : ℕ) → K' m ≡ (m == n || K m)
    pub labels : (a : ℕ) → label' a ≡ relabel low high (label a)

  -- It is no link, or both ends are in one part: nothing changes.
  pub record Skips : Type 0 where
    pub closed : G.present n ≡ true → label (G.left n) ≡ label (G.right n)
    pub kept : (m : ℕ) → K' m ≡ K m
    pub labels : (a : ℕ) → label' a ≡ label a

  abbrev pub Considered : Type 0
  Considered = Merges ⊎ Skips
