-- The highest of some values, as they are seen one by one, and what it stands for. Assumes nothing.
use Rattle.std.proofs.Common.{◌≡◌, ℕ, ◌+◌, ◌*◌, ◌<◌, ◌≤◌, true, false, if◌then◌else◌, List, length, take, drop, get_or, sym, ap, ◌∙◌, subst, inl, inr, ⊎_elim, arith}
use Rattle.std.proofs.lemmas.Bool.{cases_Bool, cases_eq, both_ways}
use Rattle.std.proofs.lemmas.List.{get_or_default, get_or-take, get_or-drop, length-take-le, length-drop}
use Rattle.scale.specs.Rules.{Rules}
use Rattle.scale.specs.Laws.{Plain, EntryLaws}
use Rattle.theory.specs.Joins.{Highest}
use Rattle.theory.proofs.Related.{leq_refl, leq_of_eq, leq_chain}
use Rattle.joining.specs.Standing.{StandsFor}
use Rattle.messages.specs.Holding.{Holds}
use Rattle.messages.specs.Sent.{variable_cell}
use Rattle.figures.specs.TreeValue.{HighestIn, HighestCell}

module _ {V E : Type 0} (R : Rules E) (means : V → E) (values : List V) where
  -- r is one of the values, and none of the first n is higher
  pub record HighestSoFar (n : ℕ) (r : V) : Type 0 where
    pub attained : (x : ℕ) × (x < length values) × ((d : V) → r ≡ get_or values x d)
    pub bound : (x : ℕ) → x < n → (d : V) → R.leq (means (get_or values x d)) (means r) ≡ true

  pub none_seen : (r : V) → r ≡ get_or values 0 r → 0 < length values → HighestSoFar 0 r
  none_seen r is some = record {
    attained = (0, some, λ d. is ∙ get_or_default values 0 r d some);
    bound = λ x h. absurd (omega arith);
  }

  -- one value more
  module _ (L : Plain R) (n : ℕ) (best new : V) (so_far : HighestSoFar n best) (new_is : new ≡ get_or values n new) (inside : n < length values) where
    here : (d : V) → new ≡ get_or values n d
    here d = new_is ∙ get_or_default values n new d inside

    bounded : (r : V) → R.leq (means best) (means r) ≡ true → R.leq (means new) (means r) ≡ true → (x : ℕ) → x < n + 1 → (d : V) → R.leq (means (get_or values x d)) (means r) ≡ true
    bounded r before own x h d = elim (cases_eq x n) [
      | inl e ↦ subst (λ (i : ℕ). R.leq (means (get_or values i d)) (means r) ≡ true) (sym e) (subst (λ (v : V). R.leq (means v) (means r) ≡ true) (here d) own)
      | inr e ↦ leq_chain R L (so_far.bound x (omega arith) d) before
    ]

    higher_seen : R.leq (means best) (means new) ≡ true → HighestSoFar (n + 1) new
    higher_seen up = record { attained = (n, inside, here); bound = bounded new up (leq_refl R L (means new)) }

    lower_seen : R.leq (means best) (means new) ≡ false → HighestSoFar (n + 1) best
    lower_seen high =
        let low : R.leq (means new) (means best) ≡ true = ⊎_elim (λ t. absurd (both_ways (R.leq (means best) (means new)) high t)) (λ t. t) (L.total (means best) (means new)) in
        record { attained = so_far.attained; bound = bounded best (leq_refl R L (means best)) low }

    -- the new value where it is at least as high, and else the best so far
    pub next_seen : (r : V) → r ≡ (if R.leq (means best) (means new) then new else best) → HighestSoFar (n + 1) r
    next_seen r is =
        subst (HighestSoFar (n + 1)) (sym is) (
        ⊎_elim (λ (up : R.leq (means best) (means new) ≡ true). rw up (higher_seen up)) (λ (low : R.leq (means best) (means new) ≡ false). rw low (lower_seen low))
        (cases_Bool (R.leq (means best) (means new))))

-- The first `size` cells of a row.
module _ {V : Type 0} (cells part : List V) (row size : ℕ) (part_is : part ≡ take 16 (drop (16 * row) cells)) (few : size ≤ 16) (whole : 16 * row + 16 ≤ length cells) where
  pub row_length : length (take size part) ≡ size
  row_length =
      length-take-le size part (omega (arith, ap length part_is, length-take-le 16 (drop (16 * row) cells) (omega (arith, length-drop (16 * row) cells))))

  cell_is : (x : ℕ) (d : V) → x < size → get_or (take size part) x d ≡ get_or cells (variable_cell row x) d
  cell_is x d h =
      get_or-take size part x d h
      ∙ ap (λ (xs : List V). get_or xs x d) part_is
      ∙ get_or-take 16 (drop (16 * row) cells) x d (omega arith)
      ∙ get_or-drop (16 * row) cells x d

  pub highest_in_row : {E : Type 0} (R : Rules E) (means : V → E) (r : V) → HighestIn R means (take size part) r → HighestCell R means cells row size r
  highest_in_row R means r highest =
      let (x, h, is) = highest.attained in
      let long = row_length in
      record {
        attained = (x, omega arith, λ d. is d ∙ cell_is x d (omega arith));
        bound = λ y k d. subst (λ (v : V). R.leq (means v) (means r) ≡ true) (cell_is y d k) (highest.bound y (omega arith) d);
      }

module _ {V E : Type 0} (R : Rules E) (L : Plain R) (means : V → E) (cells : List V) (row : ℕ) where
  -- If the cells stand for values, the highest cell stands for the highest value.
  pub highest_stands : {within : ℕ → V → Type 0} → EntryLaws R within → (size : ℕ) (r : V) → HighestCell R means cells row size r → (e : ℕ → E) (k : ℕ → ℕ) (top : E) (most : ℕ) →
      ((x : ℕ) → x < size → Holds means within cells (variable_cell row x) (e x) (k x)) → Highest R (λ x. x < size) e top → ((x : ℕ) → x < size → k x ≤ most) → StandsFor means within top most r
  highest_stands {within} ties size r highest e k top most held above few =
      let (x, h, is) = highest.attained in
      let (y, l, reached) = above.attained in
      let here : StandsFor means within (e x) (k x) r = subst (StandsFor means within (e x) (k x)) (sym (is r)) (held x h r) in
      let up = leq_chain R L (leq_of_eq R L (sym ((held y l r).exact ∙ reached))) (highest.bound y l r) in
      let down = leq_chain R L (leq_of_eq R L here.exact) (above.bound x h) in
      record { exact = L.antisym (means r) top down up; few = ties.wider (k x) most r (few x h) here.few }
