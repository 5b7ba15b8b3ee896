-- The message of a function is the highest of what it gives at the positions of its table, and the first of these is what it takes. Assumes nothing.
use Rattle.std.proofs.Common.{◌≡◌, ℕ, ◌<◌, Bool, true, List, map, get_or, Some, sym, refl, ap, ◌∙◌, subst, ap₂, arith}
use Rattle.std.proofs.lemmas.List.{get_or-map}
use Rattle.std.proofs.lemmas.Bool.{and_parts}
use Rattle.std.proofs.lemmas.Bool.Decides.{same_from_decides}
use Rattle.scale.specs.Rules.{Rules}
use Rattle.scale.specs.Laws.{Plain}
use Rattle.theory.specs.Joins.{when, Highest}
use Rattle.theory.specs.Problem.{Problem, Plan, Valid, Sound, put, size, variables, functions, scope_of, arity, at, position}
use Rattle.theory.specs.Cut.{IsCut}
use Rattle.theory.specs.Links.{link}
use Rattle.theory.specs.Forest.{Hanging, WellHung, hangs, above}
use Rattle.theory.specs.Messages.{Messages, from_variables}
use Rattle.theory.proofs.Hangs.{hangs_from}
use Rattle.theory.proofs.Joins.{joins_cong, when_cong}
use Rattle.theory.proofs.PlaceOrder.{counting, hangs_there, its_place, place_order}
use Rattle.theory.proofs.Plans.{put_here, put_valid, nothing, nothing_valid}
use Rattle.rules.specs.Report.{Takes}
use Rattle.messages.specs.Combinations.{combination, sizes_at, cut_position}
use Rattle.messages.specs.Positions.{table_length, ParentAt, value_at, CutEntries, from_below, given_at, FirstHighest}
use Rattle.messages.proofs.CutPositions.{position_values, position_below, position_value, plan_at, value_fits, cut_there, kept_value, removed_value, cut_none, cut_is}

-- What comes up depends only on the values at the places whose variables hang from f.
below_same : {E : Type 0} (R : Rules E) (P : Problem) (H : Hanging) (f : ℕ) (q q' : ℕ → ℕ → E) (xs ys : List ℕ) →
    ((p : ℕ) → p < arity P f → hangs (H.var_parent (at P f p)) f ≡ true → q (at P f p) (get_or xs p 0) ≡ q' (at P f p) (get_or ys p 0)) →
    from_below R P H q f xs ≡ from_below R P H q' f ys
below_same R P H f q q' xs ys same = joins_cong R (arity P f) (λ p place. when_cong R (hangs (H.var_parent (at P f p)) f) (same p place))

module _ (P : Problem) (sound : Sound P) (kept : ℕ → Bool) (H : Hanging) (hung : WellHung P kept H) (f : ℕ) (known : f < functions P) where
  -- The places that count are those whose variable hangs from f.
  hangs_counts : (p : ℕ) → p < arity P f → hangs (H.var_parent (at P f p)) f ≡ true → counting kept H f p ≡ true
  hangs_counts p place e =
      let (j, within, here, counts) = its_place P sound kept H hung f known (at P f p) (sound.known f p known place) e in
      subst (λ (i : ℕ). counting kept H f i ≡ true) (sound.distinct f j p known within place here) counts

  pub counts_hangs : (p : ℕ) → p < arity P f → counting kept H f p ≡ hangs (H.var_parent (at P f p)) f
  counts_hangs p place = same_from_decides {P = hangs (H.var_parent (at P f p)) f ≡ true} (counting kept H f p) (hangs (H.var_parent (at P f p)) f)
      (hangs_there P sound kept H hung f known p place, hangs_counts p place) (λ e. e, λ e. e)

  -- A place whose variable hangs from f is kept, and so is the parent's.
  pub below_kept : (p : ℕ) → p < arity P f → hangs (H.var_parent (at P f p)) f ≡ true → kept (link f p) ≡ true
  below_kept p place e = (and_parts (kept (link f p)) _ (hangs_counts p place e)).0

  pub parent_place : H.fun_parent f < arity P f
  parent_place = hung.fun_place f known

  pub parent_kept : kept (link f (H.fun_parent f)) ≡ true
  parent_kept = hung.fun_kept f known

  -- the position of a plan with 0 at the removed places, where the plan has the value x at the parent
  pub parent_at : (x : ℕ) (y : Plan) → Valid P y → y (above P H f) ≡ x → ParentAt P kept H f x (cut_position P kept f (position P f y))
  parent_at x y valid here =
      let low = position_below P sound f known y valid in (
        cut_there P sound kept f known (position P f y) low,
        kept_value P sound kept f known (position P f y) low (H.fun_parent f) parent_place parent_kept ∙ position_value P sound f known y valid (H.fun_parent f) parent_place ∙ here,
      )

  -- each value of the parent has such a position
  pub some_position : (x : ℕ) → x < size P (above P H f) → (i : ℕ) × ParentAt P kept H f x i
  some_position x fits =
      let y = put (nothing P) (above P H f) x in
      (cut_position P kept f (position P f y), parent_at x y (put_valid P (nothing P) (above P H f) x (nothing_valid P sound) fits) (put_here (nothing P) (above P H f) x))

  -- a plan there
  pub plan_there : (x i : ℕ) → ParentAt P kept H f x i → (y : Plan) × Valid P y × (y (above P H f) ≡ x) × (position P f y ≡ i)
  plan_there x i ((low, cut), here) =
      let (y, valid, is) = plan_at P sound f known i low in
      (y, valid, sym (position_value P sound f known y valid (H.fun_parent f) parent_place) ∙ ap (λ (j : ℕ). value_at P f j (H.fun_parent f)) is ∙ here, is)

module _ {E : Type 0} (R : Rules E) (P : Problem) (sound : Sound P) (kept : ℕ → Bool) (H : Hanging) (hung : WellHung P kept H) (f : ℕ) (known : f < functions P) where
  pub below_cut : (q : ℕ → ℕ → E) (i : ℕ) → i < table_length P f → from_below R P H q f (combination (sizes_at P f) (cut_position P kept f i)) ≡ from_below R P H q f (combination (sizes_at P f) i)
  below_cut q i low = below_same R P H f q q (combination (sizes_at P f) (cut_position P kept f i)) (combination (sizes_at P f) i) (λ p place e.
      ap (q (at P f p)) (kept_value P sound kept f known i low p place (below_kept P sound kept H hung f known p place e)))

  -- Messages that are the same at the variables that hang from f give the same.
  module _ (q q' : ℕ → ℕ → E) (same : (u x : ℕ) → u < variables P → H.var_parent u ≡ Some f → x < size P u → q u x ≡ q' u x) where
    pub from_below_same : (i : ℕ) → i < table_length P f → from_below R P H q f (combination (sizes_at P f) i) ≡ from_below R P H q' f (combination (sizes_at P f) i)
    from_below_same i low = below_same R P H f q q' (combination (sizes_at P f) i) (combination (sizes_at P f) i) (λ p place e.
        same (at P f p) (value_at P f i p) (sound.known f p known place) (hangs_from (H.var_parent (at P f p)) f e) (value_fits P sound f known i low p place))

    pub first_highest_same : (c : ℕ → E) (x : ℕ) (best : E) (i : ℕ) → FirstHighest R P H q kept c f x best i → FirstHighest R P H q' kept c f x best i
    first_highest_same c x best i first =
        let given : (j : ℕ) → ParentAt P kept H f x j → given_at R P H q c f j ≡ given_at R P H q' c f j = λ j there. ap (R.join (c j)) (from_below_same j there.0.0) in
        record {
          here = first.here;
          reached = sym (given i first.here) ∙ first.reached;
          bound = λ j there. subst (λ e. R.leq e best ≡ true) (given j there) (first.bound j there);
          first = λ j there is. first.first j there (given j there ∙ is);
        }

module _ {E : Type 0} (R : Rules E) (L : Plain R) (P : Problem) (sound : Sound P) (kept : ℕ → Bool) (H : Hanging) (hung : WellHung P kept H) (f : ℕ) (known : f < functions P) where
  -- What comes up to f at a plan comes up at the plan's values.
  pub below_is : (q : ℕ → ℕ → E) (y : Plan) → from_variables R P H q f y ≡ from_below R P H q f (map y (scope_of P f))
  unfolding at
  below_is q y =
      place_order R L P sound kept H hung q f known y
      ∙ joins_cong R (arity P f) (λ p place. ap₂ (when R) (counts_hangs P sound kept H hung f known p place) (ap (q (at P f p)) (sym (get_or-map y (scope_of P f) p 0 0 place))))

  pub below_at : (q : ℕ → ℕ → E) (y : Plan) → Valid P y → from_variables R P H q f y ≡ from_below R P H q f (combination (sizes_at P f) (position P f y))
  below_at q y valid = below_is q y ∙ ap (from_below R P H q f) (sym (position_values P sound f known y valid))

  -- Over a cut table by positions.
  module _ (c : ℕ → E) (entries : CutEntries R P kept f c) (cut : ℕ → Plan → E) (is_cut : IsCut R P kept cut) where
    pub given_is : (q : ℕ → ℕ → E) (y : Plan) → Valid P y → R.join (cut f y) (from_variables R P H q f y) ≡ given_at R P H q c f (cut_position P kept f (position P f y))
    given_is q y valid = ap₂ R.join
        (cut_is R L P sound kept f known c entries cut is_cut y valid)
        (below_at q y valid ∙ sym (below_cut R P sound kept H hung f known q (position P f y) (position_below P sound f known y valid)))

    -- the same where the plan stands at i, with 0 at the removed places
    given_there : (q : ℕ → ℕ → E) (y : Plan) (i : ℕ) → Valid P y → position P f y ≡ i → cut_position P kept f i ≡ i → R.join (cut f y) (from_variables R P H q f y) ≡ given_at R P H q c f i
    given_there q y i valid is same = given_is q y valid ∙ ap (given_at R P H q c f) (ap (cut_position P kept f) is ∙ same)

    pub message_is : (q : ℕ → ℕ → E) (x : ℕ) (best : E) (i : ℕ) → FirstHighest R P H q kept c f x best i →
        Highest R (λ y. Valid P y × (y (above P H f) ≡ x)) (λ y. R.join (cut f y) (from_variables R P H q f y)) best
    message_is q x best i first =
        let (y, valid, here, is) = plan_there P sound kept H hung f known x i first.here in
        record {
          attained = (y, (valid, here), given_there q y i valid is first.here.0.1 ∙ first.reached);
          bound = λ z ok. subst (λ e. R.leq e best ≡ true) (sym (given_is q z ok.0)) (first.bound (cut_position P kept f (position P f z)) (parent_at P sound kept H hung f known x z ok.0 ok.1));
        }

    pub takes_is : (m : Messages R P H cut) (x : ℕ) (best : E) (i : ℕ) → FirstHighest R P H m.q kept c f x best i → best ≡ m.r f x →
        (y : Plan) × Takes R P kept H cut m f x y × (position P f y ≡ i)
    takes_is m x best i first e =
        let (y, valid, here, is) = plan_there P sound kept H hung f known x i first.here in
        let ((low, same), at_x) = first.here in (
          y,
          record {
            reaches = record {
              valid = valid;
              here = here;
              zeros = λ p place out.
                  sym (position_value P sound f known y valid p place) ∙ ap (λ (j : ℕ). value_at P f j p) (is ∙ sym same) ∙ removed_value P sound kept f known i low p place out;
              reached = given_there m.q y i valid is same ∙ first.reached ∙ e;
            };
            first = λ z other.
                let j = position P f z in
                let zeros = cut_none P sound kept f known j (position_below P sound f known z other.valid) (λ p place out. position_value P sound f known z other.valid p place ∙ other.zeros p place out) in
                let there : ParentAt P kept H f x j = (zeros, position_value P sound f known z other.valid (H.fun_parent f) (parent_place P sound kept H hung f known) ∙ other.here) in
                let later = first.first j there (sym (given_there m.q z j other.valid refl zeros.1) ∙ other.reached ∙ sym e) in
                omega (arith, later, is);
          },
          is,
        )
