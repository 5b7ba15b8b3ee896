-- The weights of links, written cell by cell. Assumes nothing.
use Rattle.std.proofs.Common.{◌≡◌, ℕ, ◌+◌, ◌/◌, ◌%◌, ◌<◌, ◌≤◌, true, false, ◌≢◌, List, map, length, get_or, set, sym, ap, ◌∙◌, subst, subst₂, ⊎_elim, arith, below_more}
use Rattle.std.proofs.lemmas.List.{get_or-map, get_or_past, get_or-set_same, get_or-set_other, length-map, length-set, take-set-le, drop-set-lt}
use Rattle.std.proofs.lemmas.Bool.{cases_lt}
use Rattle.scale.specs.Rules.{Rules}
use Rattle.theory.specs.Problem.{Problem}
use Rattle.theory.specs.Cut.{Weighs, Weights}
use Rattle.theory.specs.Links.{link, is_link}
use Rattle.tables.specs.declared.tables.Tables.{Tables}
use Rattle.tables.specs.View.{problem_of}
use Rattle.tables.proofs.Ordered.{within_sizes}
use Rattle.keeping.specs.Weights.{weight_of}
use Rattle.spanning.specs.WeightCells.{weight_cells, OthersSame}
use Rattle.spanning.proofs.OfTables.{link_there}
use Rattle.spanning.proofs.WeightCells.{weight_count, weight_cell}

-- The value v is fine, and means the weight of the link n; neutral where there is no such link.
pub record LinkWeight {V E : Type 0} (R : Rules E) (means : V → E) (Fine : V → Type 0) (P : Problem) (n : ℕ) (v : V) : Type 0 where
  pub weighs : is_link P n ≡ true → Weighs R P (n / 4) (n % 4) (means v)
  pub unweighed : is_link P n ≡ false → means v ≡ R.neutral
  pub fine : Fine v

-- From `before` to `after` the first n weights are written, and no other cell has changed.
pub record Weighed {V E : Type 0} (R : Rules E) (means : V → E) (Fine : V → Type 0) (P : Problem) (before after : List V) (n : ℕ) : Type 0 where
  pub each : (m : ℕ) → m < n → (v : V) × ((d : V) → get_or after (2048 + m) d ≡ v) × LinkWeight R means Fine P m v
  pub others : OthersSame before after

module _ {V E : Type 0} (R : Rules E) (means : V → E) (Fine : V → Type 0) (P : Problem) (before after : List V) where
  -- one weight more, in its cell
  module _ (n : ℕ) (v : V) (h : n < 256) (room : 2304 ≤ length before) (weight : LinkWeight R means Fine P n v) (w : Weighed R means Fine P before after n) where
    one_more : Weighed R means Fine P before (set after (2048 + n) v) (n + 1)
    one_more =
        let long = w.others.long in
        record {
          each = below_more _ n
              (λ m k.
              let (u, is, fine) = w.each m k in
              let away : 2048 + m ≢ 2048 + n = λ e. omega arith in
              (u, λ d. get_or-set_other after (2048 + n) (2048 + m) v d away ∙ is d, fine))
              (v, λ d. get_or-set_same after (2048 + n) v d (omega arith), weight);
          others = record {
            front = take-set-le 2048 after (2048 + n) v (omega arith) ∙ w.others.front;
            back = drop-set-lt 2304 after (2048 + n) v (omega arith) ∙ w.others.back;
            long = length-set after (2048 + n) v ∙ long;
          };
        }

    pub weighed_more : (i : ℕ) (cells : List V) → cells ≡ set after i v → i ≡ 2048 + n → Weighed R means Fine P before cells (n + 1)
    weighed_more i cells is cell = subst (λ (c : List V). Weighed R means Fine P before c (n + 1)) (sym (is ∙ ap (λ (j : ℕ). set after j v) cell)) one_more

module _ {V E : Type 0} (R : Rules E) (means : V → E) (after : List V) (room : 2304 ≤ length after) where
  abbrev weight : ℕ → E
  weight = weight_of R means (weight_cells after)

  -- the weight that a cell means
  weight_at : (n : ℕ) (v : V) → n < 256 → get_or after (2048 + n) v ≡ v → weight n ≡ means v
  weight_at n v h is =
      let long = weight_count after room in
      get_or-map means (weight_cells after) n v R.neutral (omega arith)
      ∙ ap means (weight_cell after n v h ∙ is)

  weight_past : (n : ℕ) → 256 ≤ n → weight n ≡ R.neutral
  weight_past n h =
      let long = length-map (weight_cells after) means in
      let cells = weight_count after room in
      get_or_past (map means (weight_cells after)) n R.neutral (omega arith)

  module _ (Fine : V → Type 0) (t : Tables) (before : List V) (w : Weighed R means Fine (problem_of t) before after 256) where
    pub all_weights : Weights R (problem_of t) weight
    all_weights f p h k =
        let (own, place, there) = link_there t f p h k in
        let few = (within_sizes t).few_functions in
        let four = (within_sizes t).sound.four_places f h in
        let small : link f p < 256 = omega arith in
        let (v, is, cell) = w.each (link f p) small in
        subst (λ (e : E). Weighs R (problem_of t) f p e) (sym (weight_at (link f p) v small (is v)))
        (subst₂ (λ (g q : ℕ). Weighs R (problem_of t) g q (means v)) own place (cell.weighs there))

    pub none_weighed : (n : ℕ) → is_link (problem_of t) n ≡ false → weight n ≡ R.neutral
    none_weighed n none = ⊎_elim
        (λ (h : n < 256). let (v, is, cell) = w.each n h in weight_at n v h (is v) ∙ cell.unweighed none)
        (λ (h : 256 ≤ n). weight_past n h)
        (cases_lt n 256)

    pub all_fine : (n : ℕ) (d : V) → n < 256 → Fine (get_or after (2048 + n) d)
    all_fine n d h = let (v, is, cell) = w.each n h in subst Fine (sym (is d)) cell.fine
