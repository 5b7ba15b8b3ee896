-- The positions of a function's table by the values that stand there, those with 0 at the removed places, and the cut table over them. Assumes nothing.
use Rattle.std.proofs.Common.{◌≡◌, ℕ, suc, ◌+◌, ◌*◌, ◌<◌, ◌≤◌, Bool, true, false, cond, List, [], ◌∷◌, map, length, get_or, sym, refl, ap, ◌∙◌, subst, inl, inr, arith}
use Rattle.std.proofs.lemmas.List.{ext_get_or, get_or-map, length-map}
use Rattle.std.proofs.lemmas.Bool.{cases_Bool, cond-true, cond-false, cond_both}
use Rattle.scale.specs.Rules.{Rules}
use Rattle.scale.specs.Laws.{Plain}
use Rattle.theory.specs.Problem.{Problem, Plan, Valid, Sound, size, functions, scope_of, arity, at, product, index, position, entry}
use Rattle.theory.specs.Cut.{Agrees, IsCut}
use Rattle.theory.specs.Links.{link}
use Rattle.theory.proofs.Index.{Within, index_below}
use Rattle.theory.proofs.Positions.{map_within, positions}
use Rattle.messages.specs.Combinations.{combination, cleared, sizes_at, cut_position}
use Rattle.messages.specs.Positions.{table_length, CutPosition, value_at, CutEntries, read_at}
use Rattle.messages.proofs.Combining.{combination_within, index_combination, combination_of, within_length, within_at, cleared_at, cleared_within, length_cleared}

cleared_twice : (test : ℕ → Bool) (xs : List ℕ) → cleared test (cleared test xs) ≡ cleared test xs
cleared_twice test xs =
    let long = length_cleared test xs in
    let longer = length_cleared test (cleared test xs) in
    ext_get_or 0 (cleared test (cleared test xs)) (cleared test xs) longer (λ p h.
    cleared_at test (cleared test xs) p (omega arith)
    ∙ ap (λ (x : ℕ). cond (test p) x 0) (cleared_at test xs p (omega arith))
    ∙ once (test p) (get_or xs p 0)
    ∙ sym (cleared_at test xs p (omega arith)))
  where
    once : (b : Bool) (x : ℕ) → cond b (cond b x 0) 0 ≡ cond b x 0
    once true x = refl
    once false x = refl

cleared_low : (test : ℕ → Bool) (sizes xs : List ℕ) → index sizes (cleared test xs) ≤ index sizes xs
cleared_low test [] xs = omega arith
cleared_low test (s ∷ sizes) [] = omega arith
cleared_low test (s ∷ sizes) (x ∷ xs) =
    let rest = cleared_low (λ p. test (suc p)) sizes xs in
    let k = product sizes in
    cond_both (test 0) x 0 (λ (n : ℕ). n * k + index sizes (cleared (λ p. test (suc p)) xs) ≤ x * k + index sizes xs) (λ e. omega arith) (λ e. omega arith)

module _ (P : Problem) (sound : Sound P) (f : ℕ) (known : f < functions P) where
  pub table_full : table_length P f ≡ product (sizes_at P f)
  table_full = sound.full f known

  pub values_within : (i : ℕ) → i < table_length P f → Within (sizes_at P f) (combination (sizes_at P f) i)
  values_within i h = combination_within (sizes_at P f) i (subst (λ (n : ℕ). i < n) table_full h)

  pub values_length : (i : ℕ) → i < table_length P f → length (combination (sizes_at P f) i) ≡ arity P f
  values_length i h = within_length (sizes_at P f) (combination (sizes_at P f) i) (values_within i h) ∙ length-map (scope_of P f) (size P)

  -- the value at a place is one of its variable's
  pub value_fits : (i : ℕ) → i < table_length P f → (p : ℕ) → p < arity P f → value_at P f i p < size P (at P f p)
  unfolding at
  value_fits i h p place =
      let long = length-map (scope_of P f) (size P) in
      subst (λ (n : ℕ). value_at P f i p < n) (get_or-map (size P) (scope_of P f) p 0 0 place)
      (within_at (sizes_at P f) (combination (sizes_at P f) i) (values_within i h) p (omega arith))

  -- where the same values stand is one position
  pub one_position : (i j : ℕ) → i < table_length P f → j < table_length P f → ((p : ℕ) → p < arity P f → value_at P f i p ≡ value_at P f j p) → i ≡ j
  one_position i j h k same =
      let long = values_length i h in
      let long' = values_length j k in
      sym (index_combination (sizes_at P f) i (subst (λ (n : ℕ). i < n) table_full h))
      ∙ ap (index (sizes_at P f)) (ext_get_or 0 (combination (sizes_at P f) i) (combination (sizes_at P f) j) (omega arith) (λ p l. same p (omega arith)))
      ∙ index_combination (sizes_at P f) j (subst (λ (n : ℕ). j < n) table_full k)

  -- the values of a plan stand at its position
  module _ (y : Plan) (valid : Valid P y) where
    pub position_values : combination (sizes_at P f) (position P f y) ≡ map y (scope_of P f)
    unfolding position at
    position_values = combination_of (sizes_at P f) (map y (scope_of P f)) (map_within y (size P) (scope_of P f) (λ p k. valid (at P f p) (sound.known f p known k)))

    pub position_below : position P f y < table_length P f
    position_below = (positions P sound f known).within y valid

    pub position_value : (p : ℕ) → p < arity P f → value_at P f (position P f y) p ≡ y (at P f p)
    unfolding at
    position_value p place = ap (λ (xs : List ℕ). get_or xs p 0) position_values ∙ get_or-map y (scope_of P f) p 0 0 place

  -- a plan at each position
  pub plan_at : (i : ℕ) → i < table_length P f → (y : Plan) × Valid P y × (position P f y ≡ i)
  plan_at = (positions P sound f known).each

module _ (P : Problem) (sound : Sound P) (kept : ℕ → Bool) (f : ℕ) (known : f < functions P) where
  abbrev keeps : ℕ → Bool
  keeps p = kept (link f p)

  -- position i with 0 at the removed places
  module _ (i : ℕ) (h : i < table_length P f) where
    within : Within (sizes_at P f) (cleared keeps (combination (sizes_at P f) i))
    within = cleared_within keeps (sizes_at P f) (combination (sizes_at P f) i) (values_within P sound f known i h)

    pub cut_values : combination (sizes_at P f) (cut_position P kept f i) ≡ cleared keeps (combination (sizes_at P f) i)
    cut_values = combination_of (sizes_at P f) (cleared keeps (combination (sizes_at P f) i)) within

    pub cut_below : cut_position P kept f i < table_length P f
    cut_below = subst (λ (n : ℕ). cut_position P kept f i < n) (sym (table_full P sound f known)) (index_below (sizes_at P f) (cleared keeps (combination (sizes_at P f) i)) within)

    pub cut_twice : cut_position P kept f (cut_position P kept f i) ≡ cut_position P kept f i
    cut_twice = ap (λ (xs : List ℕ). index (sizes_at P f) (cleared keeps xs)) cut_values ∙ ap (index (sizes_at P f)) (cleared_twice keeps (combination (sizes_at P f) i))

    pub cut_there : CutPosition P kept f (cut_position P kept f i)
    cut_there = (cut_below, cut_twice)

    pub cut_low : cut_position P kept f i ≤ i
    cut_low = subst (λ (n : ℕ). cut_position P kept f i ≤ n)
        (index_combination (sizes_at P f) i (subst (λ (n : ℕ). i < n) (table_full P sound f known) h))
        (cleared_low keeps (sizes_at P f) (combination (sizes_at P f) i))

    pub cut_value : (p : ℕ) → p < arity P f → value_at P f (cut_position P kept f i) p ≡ cond (kept (link f p)) (value_at P f i p) 0
    cut_value p place =
        let long = values_length P sound f known i h in
        ap (λ (xs : List ℕ). get_or xs p 0) cut_values ∙ cleared_at keeps (combination (sizes_at P f) i) p (omega arith)

    pub kept_value : (p : ℕ) → p < arity P f → kept (link f p) ≡ true → value_at P f (cut_position P kept f i) p ≡ value_at P f i p
    kept_value p place e = cut_value p place ∙ cond-true (kept (link f p)) (value_at P f i p) 0 e

    pub removed_value : (p : ℕ) → p < arity P f → kept (link f p) ≡ false → value_at P f (cut_position P kept f i) p ≡ 0
    removed_value p place e = cut_value p place ∙ cond-false (kept (link f p)) (value_at P f i p) 0 e

    -- where 0 stands at the removed places already
    pub cut_none : ((p : ℕ) → p < arity P f → kept (link f p) ≡ false → value_at P f i p ≡ 0) → CutPosition P kept f i
    cut_none zeros = (
      h,
      one_position P sound f known (cut_position P kept f i) i cut_below h (λ p place. elim (cases_Bool (kept (link f p))) [
        | inl e ↦ kept_value p place e
        | inr e ↦ removed_value p place e ∙ sym (zeros p place e)
      ]),
    )

  -- Plans have the same values at the kept places where their positions are the same with 0 at the removed ones.
  module _ (y z : Plan) (valid : Valid P y) (valid' : Valid P z) where
    pub agrees_cut : Agrees P kept f y z → cut_position P kept f (position P f y) ≡ cut_position P kept f (position P f z)
    agrees_cut same =
        let low = position_below P sound f known y valid in
        let low' = position_below P sound f known z valid' in
        one_position P sound f known (cut_position P kept f (position P f y)) (cut_position P kept f (position P f z)) (cut_below (position P f y) low) (cut_below (position P f z) low') (λ p place.
        elim (cases_Bool (kept (link f p))) [
          | inl e ↦ kept_value (position P f y) low p place e ∙ position_value P sound f known y valid p place ∙ sym (same p place e)
              ∙ sym (position_value P sound f known z valid' p place) ∙ sym (kept_value (position P f z) low' p place e)
          | inr e ↦ removed_value (position P f y) low p place e ∙ sym (removed_value (position P f z) low' p place e)
        ])

    pub cut_agrees : cut_position P kept f (position P f y) ≡ cut_position P kept f (position P f z) → Agrees P kept f y z
    cut_agrees same p place e =
        let low = position_below P sound f known y valid in
        let low' = position_below P sound f known z valid' in
        sym (position_value P sound f known z valid' p place) ∙ sym (kept_value (position P f z) low' p place e)
        ∙ ap (λ (i : ℕ). value_at P f i p) (sym same)
        ∙ kept_value (position P f y) low p place e ∙ position_value P sound f known y valid p place

-- The cut table of a function at a plan stands at the plan's position with 0 at the removed places.
pub cut_is : {E : Type 0} (R : Rules E) (L : Plain R) (P : Problem) (sound : Sound P) (kept : ℕ → Bool) (f : ℕ) (known : f < functions P)
    (c : ℕ → E) → CutEntries R P kept f c → (cut : ℕ → Plan → E) → IsCut R P kept cut → (y : Plan) → Valid P y → cut f y ≡ c (cut_position P kept f (position P f y))
unfolding entry
cut_is R L P sound kept f known c entries cut is_cut y valid =
    let i = position P f y in
    let k = cut_position P kept f i in
    let there = entries k (cut_there P sound kept f known i (position_below P sound f known y valid)) in
    let here = is_cut f y known valid in
    let (j, (low, same), is) = there.attained in
    let (z, ok, at_j) = plan_at P sound f known j low in
    let (w, (fine, agrees), is') = here.attained in
    L.antisym (cut f y) (c k)
    (subst (λ e. R.leq (cut f y) e ≡ true) (ap (read_at R P f) at_j ∙ is) (here.bound z (ok, cut_agrees P sound kept f known y z valid ok (sym same ∙ ap (cut_position P kept f) (sym at_j)))))
    (subst (λ e. R.leq (c k) e ≡ true) is' (there.bound (position P f w) (position_below P sound f known w fine, sym (agrees_cut P sound kept f known y w valid fine agrees))))
