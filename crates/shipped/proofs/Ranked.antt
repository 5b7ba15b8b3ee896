-- The promise in ranked. Assumes nothing.
use Rattle.std.proofs.Common.{◌≡◌, ℕ, zero, suc, ◌*◌, ◌/◌, ◌%◌, ◌<◌, Bool, true, false, ◌&&◌, if◌then◌else◌, ℤ, pos, ◌+ℤ◌, sym, refl, ap, ◌∙◌, ap₂, subst, arith}
use Rattle.std.proofs.lemmas.Int.{ints}
use Rattle.scale.specs.Ranks.{rank_leq, ranked}
use Rattle.scale.specs.RankLaws.{rank_laws, rank_gaps}
use Rattle.theory.specs.Joins.{joins, when}
use Rattle.theory.specs.Problem.{Problem, Plan, Valid, Sound, functions, entry, score}
use Rattle.theory.specs.Graphs.{set_weight}
use Rattle.theory.specs.Links.{is_link, graph}
use Rattle.theory.specs.Cut.{Weighs, IsCut}
use Rattle.theory.proofs.Joins.{joins_cong}
use Rattle.calls.proofs.Promised.{measuring_promised, stays_within}
use Rattle.shipped.specs.Plain.{sum_below, word_at}
use Rattle.shipped.specs.Ranked.{AreRanked, AtMost, minus, pairs_below, ranked_of, ranked_score, RankedWeight, RankedCut, ranked_of_links, RankedPromise}
use Rattle.shipped.proofs.Reported.{reported, attained, most}
use Rattle.shipped.proofs.Words.{signed_16_is}

sum_is : (n : ℕ) (t : ℕ → ℤ × ℤ) → joins ranked n t ≡ pairs_below n t
unfolding joins sum_below
sum_is zero t = refl
sum_is (suc n) t = ap (λ (s : ℤ × ℤ). (s.0 +ℤ (t n).0, s.1 +ℤ (t n).1)) (sum_is n t)

reads_is : (word : ℕ) → ranked.reads word ≡ ranked_of word
reads_is word = rw (signed_16_is (word % 65536), signed_16_is (word / 65536))

when_is : (b : Bool) (a : ℤ × ℤ) → when ranked b a ≡ (if b then a else (pos 0, pos 0))
when_is true a = refl
when_is false a = refl

at_most : (a b : ℤ × ℤ) → rank_leq a b ≡ true → AtMost a b
at_most a b h = grind (arith, ints)

less_left : (a a' b : ℤ × ℤ) → rank_leq a a' ≡ true → rank_leq (minus a b) (minus a' b) ≡ true
less_left a a' b h = grind (arith, ints)

less_right : (a b b' : ℤ × ℤ) → rank_leq b' b ≡ true → rank_leq (minus a b) (minus a b') ≡ true
less_right a b b' h = grind (arith, ints)

less_mono : (a a' b b' : ℤ × ℤ) → rank_leq a a' ≡ true → rank_leq b' b ≡ true → rank_leq (minus a b) (minus a' b') ≡ true
less_mono a a' b b' h k = rank_laws.trans (minus a b) (minus a' b) (minus a' b') (less_left a a' b h) (less_right a' b b' k)

gap_is : (a b : ℤ × ℤ) → rank_leq b a ≡ true → ranked.gap a b ≡ minus a b
gap_is a b h = rw h

module _ (P : Problem) where
  entry_is : (f : ℕ) (y : Plan) → entry ranked P f y ≡ ranked_of (word_at P f y)
  unfolding entry
  entry_is f y = reads_is (word_at P f y)

  score_is : (y : Plan) → score ranked P y ≡ ranked_score P y
  score_is y = joins_cong ranked (functions P) (λ f k. entry_is f y) ∙ sum_is (functions P) _

  links_are : (weight : ℕ → ℤ × ℤ) (links : ℕ → Bool) → set_weight ranked (graph P) weight links ≡ ranked_of_links P weight links
  links_are weight links = joins_cong ranked (4 * functions P) (λ n k. when_is (is_link P n && links n) (weight n)) ∙ sum_is (4 * functions P) _

  least_is : {kept : ℕ → Bool} {cut : ℕ → Plan → ℤ × ℤ} → IsCut ranked P kept cut → (f : ℕ) (y : Plan) → f < functions P → Valid P y → RankedCut P kept f y (cut f y)
  least_is {cut = cut} is_cut f y k valid =
      let lowest = is_cut f y k valid in
      let (z, ok, is) = lowest.attained in record {
        attained = (record { plan = z; valid = ok.0; same = ok.1 }, sym (entry_is f z) ∙ is);
        least = λ z. subst (λ (a : ℤ × ℤ). AtMost (cut f y) a) (entry_is f z.plan) (at_most _ _ (lowest.bound z.plan (z.valid, z.same)));
      }

  weight_is : Sound P → (f p : ℕ) (w : ℤ × ℤ) → Weighs ranked P f p w → RankedWeight P f p w
  weight_is sound f p w g =
      let (c, is) = attained ranked rank_laws minus gap_is less_mono P sound f p w g in record {
        attained = (c, ap₂ minus (sym (entry_is f _)) (sym (entry_is f _)) ∙ is);
        most = λ c. subst (λ (a : ℤ × ℤ). AtMost a w) (ap₂ minus (entry_is f _) (entry_is f _)) (at_most _ _ (most ranked rank_laws minus gap_is less_mono P sound f p w g c));
      }

pub ranked_promised : RankedPromise ranked
ranked_promised start calls state begins runs standing is =
    let g = measuring_promised ranked rank_laws rank_gaps start calls state begins runs standing is in
    let s = reported ranked rank_laws start calls state begins runs is g.plainly in
    let P = state.problem in
    let sound = (stays_within ranked start calls state begins runs).sound in record {
      valid = g.plainly.valid;
      scored = g.plainly.scored ∙ score_is P _;
      at_most_ceiling = λ y valid. subst (λ (a : ℤ × ℤ). AtMost a standing.figures.ceiling) (score_is P y) (at_most _ _ (g.plainly.at_most_ceiling y valid));
      not_below_tree = at_most _ _ g.plainly.not_below_tree;
      ceiling_is = s.ceiling_is;
      reached = s.reached;
      kept = g.plainly.kept;
      kept_told = g.plainly.kept_told;
      cut = g.plainly.cut;
      cut_is = least_is P g.plainly.is_cut;
      at_most_tree = λ y valid. subst (λ (a : ℤ × ℤ). AtMost a standing.figures.tree) (sum_is (functions P) _) (at_most _ _ (g.plainly.at_most_tree y valid));
      reaches_tree = sym (sum_is (functions P) _) ∙ g.plainly.reaches_tree;
      weight = g.weight;
      weights = λ f p k place. weight_is P sound f p _ (g.weights f p k place);
      removed_clear = g.removed_clear;
      removed_weigh = sym g.removed_weigh ∙ links_are P g.weight _;
      at_least_removed = λ links clears. subst (λ (a : ℤ × ℤ). AtMost standing.figures.removed a) (links_are P g.weight links) (at_most _ _ (g.at_least_removed links clears));
    }

pub ranked_are : AreRanked ranked (λ r. (r.first, r.second))
ranked_are = record {
  means_is = λ r. refl;
  order = λ a b. (at_most a b, λ h. grind (arith, ints));
  join = λ a b. refl;
  neutral = refl;
  gap = λ a b h. gap_is a b (grind (arith, ints));
  no_gap = λ a b h. grind (arith, ints);
  entry = λ word. (
    λ h. grind (arith, ints, signed_16_is (word % 65536), signed_16_is (word / 65536)),
    λ h. grind (arith, ints, signed_16_is (word % 65536), signed_16_is (word / 65536)),
  );
  reads = reads_is;
  neutral_word = refl;
  shown = λ a. refl;
  code = refl;
}
