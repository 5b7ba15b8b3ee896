-- The promise in points. Assumes nothing.
use Rattle.std.proofs.Common.{◌≡◌, ℕ, zero, suc, ◌*◌, ◌<◌, Bool, true, false, ◌&&◌, if◌then◌else◌, ℤ, pos, ◌+ℤ◌, ◌-ℤ◌, ◌≤ℤ◌, int_le, sym, refl, ap, ◌∙◌, ap₂, subst, arith}
use Rattle.std.proofs.lemmas.Int.{ints}
use Rattle.scale.specs.Points.{points}
use Rattle.scale.specs.Whole.{leZ_in, whole_laws, whole_gaps}
use Rattle.theory.specs.Joins.{joins, when}
use Rattle.theory.specs.Problem.{Problem, Plan, Valid, Sound, functions, entry, score}
use Rattle.theory.specs.Graphs.{set_weight}
use Rattle.theory.specs.Links.{is_link, graph}
use Rattle.theory.specs.Cut.{Weighs, IsCut}
use Rattle.theory.proofs.Joins.{joins_cong}
use Rattle.calls.proofs.Promised.{measuring_promised, stays_within}
use Rattle.shipped.specs.Plain.{sum_below, word_at}
use Rattle.shipped.specs.Points.{AreWhole, points_of, points_score, PointsWeight, PointsCut, points_of_links, PointsPromise}
use Rattle.shipped.proofs.Reported.{reported, attained, most}
use Rattle.shipped.proofs.Words.{signed_32_is}

sum_is : (n : ℕ) (t : ℕ → ℤ) → joins points n t ≡ sum_below n t
unfolding joins sum_below
sum_is zero t = refl
sum_is (suc n) t = ap (λ (s : ℤ). s +ℤ t n) (sum_is n t)

reads_is : (word : ℕ) → points.reads word ≡ points_of word
reads_is word = rw (signed_32_is word)

when_is : (b : Bool) (z : ℤ) → when points b z ≡ (if b then z else pos 0)
when_is true z = refl
when_is false z = refl

less_mono : (a a' b b' : ℤ) → int_le a a' ≡ true → int_le b' b ≡ true → int_le (a -ℤ b) (a' -ℤ b') ≡ true
less_mono a a' b b' h k = grind (arith, ints)

gap_is : (a b : ℤ) → int_le b a ≡ true → points.gap a b ≡ a -ℤ b
gap_is a b h = rw h

module _ (P : Problem) where
  entry_is : (f : ℕ) (y : Plan) → entry points P f y ≡ points_of (word_at P f y)
  unfolding entry
  entry_is f y = reads_is (word_at P f y)

  score_is : (y : Plan) → score points P y ≡ points_score P y
  score_is y = joins_cong points (functions P) (λ f k. entry_is f y) ∙ sum_is (functions P) _

  links_are : (weight : ℕ → ℤ) (links : ℕ → Bool) → set_weight points (graph P) weight links ≡ points_of_links P weight links
  links_are weight links = joins_cong points (4 * functions P) (λ n k. when_is (is_link P n && links n) (weight n)) ∙ sum_is (4 * functions P) _

  least_is : {kept : ℕ → Bool} {cut : ℕ → Plan → ℤ} → IsCut points P kept cut → (f : ℕ) (y : Plan) → f < functions P → Valid P y → PointsCut P kept f y (cut f y)
  least_is {cut = cut} is_cut f y k valid =
      let lowest = is_cut f y k valid in
      let (z, ok, is) = lowest.attained in record {
        attained = (record { plan = z; valid = ok.0; same = ok.1 }, sym (entry_is f z) ∙ is);
        least = λ z. subst (λ (n : ℤ). cut f y ≤ℤ n) (entry_is f z.plan) (leZ_in _ _ (lowest.bound z.plan (z.valid, z.same)));
      }

pub points_promised : PointsPromise points
points_promised start calls state begins runs standing is =
    let g = measuring_promised points whole_laws whole_gaps start calls state begins runs standing is in
    let s = reported points whole_laws start calls state begins runs is g.plainly in
    let P = state.problem in
    let sound = (stays_within points start calls state begins runs).sound in record {
      valid = g.plainly.valid;
      scored = g.plainly.scored ∙ score_is P _;
      at_most_ceiling = λ y valid. subst (λ (z : ℤ). z ≤ℤ standing.figures.ceiling) (score_is P y) (leZ_in _ _ (g.plainly.at_most_ceiling y valid));
      not_below_tree = leZ_in _ _ g.plainly.not_below_tree;
      ceiling_is = s.ceiling_is;
      reached = s.reached;
      kept = g.plainly.kept;
      kept_told = g.plainly.kept_told;
      cut = g.plainly.cut;
      cut_is = least_is P g.plainly.is_cut;
      at_most_tree = λ y valid. subst (λ (z : ℤ). z ≤ℤ standing.figures.tree) (sum_is (functions P) _) (leZ_in _ _ (g.plainly.at_most_tree y valid));
      reaches_tree = sym (sum_is (functions P) _) ∙ g.plainly.reaches_tree;
      weight = g.weight;
      weights = λ f p k place. weight_is P sound f p _ (g.weights f p k place);
      removed_clear = g.removed_clear;
      removed_weigh = sym g.removed_weigh ∙ links_are P g.weight _;
      at_least_removed = λ links clears. subst (λ (z : ℤ). standing.figures.removed ≤ℤ z) (links_are P g.weight links) (leZ_in _ _ (g.at_least_removed links clears));
    }
  where
    weight_is : (P : Problem) → Sound P → (f p : ℕ) (w : ℤ) → Weighs points P f p w → PointsWeight P f p w
    weight_is P sound f p w g =
        let (c, is) = attained points whole_laws ◌-ℤ◌ gap_is less_mono P sound f p w g in record {
          attained = (c, ap₂ ◌-ℤ◌ (sym (entry_is P f _)) (sym (entry_is P f _)) ∙ is);
          most = λ c. subst (λ (z : ℤ). z ≤ℤ w) (ap₂ ◌-ℤ◌ (entry_is P f _) (entry_is P f _)) (leZ_in _ _ (most points whole_laws ◌-ℤ◌ gap_is less_mono P sound f p w g c));
        }

pub points_are : AreWhole points (λ p. p.value)
points_are = record {
  means_is = λ p. refl;
  order = λ a b. (leZ_in a b, λ h. grind (arith, ints));
  join = λ a b. refl;
  neutral = refl;
  gap = λ a b h. gap_is a b (grind (arith, ints));
  no_gap = λ a b h. grind (arith, ints);
  entry = λ word. (λ h. grind (arith, ints, signed_32_is word), λ h. grind (arith, ints, signed_32_is word));
  reads = reads_is;
  neutral_word = refl;
  shown = λ a. refl;
  code = refl;
}
