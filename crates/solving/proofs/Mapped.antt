-- Cells of a board, read through what they mean. Assumes nothing.
use Rattle.std.proofs.Common.{◌≡◌, ℕ, zero, suc, ◌+◌, ◌<◌, ◌≤◌, List, [], ◌∷◌, map, length, get_or, drop, sym, refl, ap, ◌∙◌, inl, inr, arith}
use Rattle.std.proofs.lemmas.Bool.{cases_lt}
use Rattle.std.proofs.lemmas.List.{get_or-map, get_or_past, get_or-drop, get_or-take, length-map, take-map, drop-map, ext_get_or}
use Rattle.spanning.specs.WeightCells.{weight_cells}
use Rattle.spanning.proofs.WeightCells.{weight_count}

-- a cell that is there holds one value, whatever the default
cell_there : {V : Type 0} (cells : List V) (k : ℕ) → k < length cells → (v : V) × ((d : V) → get_or cells k d ≡ v)
cell_there [] k h = absurd (omega arith)
cell_there (c ∷ cells) zero h = (c, λ d. refl)
cell_there (c ∷ cells) (suc k) h = cell_there cells k (omega arith)

module _ {V E : Type 0} (means : V → E) (cells : List V) (e : E) where
  pub mapped_at : (k : ℕ) (x : E) → k < length cells → ((d : V) → means (get_or cells k d) ≡ x) → get_or (map means cells) k e ≡ x
  mapped_at k x h says = let (v, is) = cell_there cells k h in get_or-map means cells k v e h ∙ says v

  module _ (before : List V) (long : length cells ≡ length before) where
    mapped_same : (k : ℕ) → ((d : V) → get_or cells k d ≡ get_or before k d) → get_or (map means cells) k e ≡ get_or (map means before) k e
    mapped_same k same = elim (cases_lt k (length cells)) [
      | inl low ↦ let (v, is) = cell_there cells k low in get_or-map means cells k v e low ∙ ap means (same v) ∙ sym (get_or-map means before k v e (omega arith))
      | inr past ↦
          let count = length-map cells means in
          let count' = length-map before means in
          get_or_past (map means cells) k e (omega arith) ∙ sym (get_or_past (map means before) k e (omega arith))
    ]

-- the cells of the weights, in the whole board
pub weight_read : {V E : Type 0} (means : V → E) (cells : List V) (e : E) (n : ℕ) → n < 256 → get_or (map means (weight_cells cells)) n e ≡ get_or (map means cells) (2048 + n) e
weight_read means cells e n h =
    sym (ap (λ s. get_or s n e) (take-map means 256 (drop 2048 cells)))
    ∙ get_or-take 256 (map means (drop 2048 cells)) n e h
    ∙ sym (ap (λ s. get_or s n e) (drop-map means 2048 cells))
    ∙ get_or-drop 2048 (map means cells) n e

-- Where no cell from 2048 on has changed, the weights are as they were.
pub weights_same : {V E : Type 0} (means : V → E) (cells before : List V) (e : E) → length cells ≡ length before → 2304 ≤ length before →
    ((k : ℕ) (d : V) → 2048 ≤ k → get_or cells k d ≡ get_or before k d) → map means (weight_cells cells) ≡ map means (weight_cells before)
weights_same means cells before e long room same =
    let count = length-map (weight_cells cells) means ∙ weight_count cells (omega arith) in
    let count' = length-map (weight_cells before) means ∙ weight_count before room in
    ext_get_or e (map means (weight_cells cells)) (map means (weight_cells before)) (count ∙ sym count') (λ n low.
    weight_read means cells e n (omega arith)
    ∙ mapped_same means cells e before long (2048 + n) (λ d. same (2048 + n) d (omega arith))
    ∙ sym (weight_read means before e n (omega arith)))
