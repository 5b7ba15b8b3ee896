-- The promise in capped. Assumes nothing.
use Rattle.std.proofs.Common.{◌≡◌, ℕ, zero, suc, ◌-◌, ◌*◌, ◌<◌, ◌≤◌, min, Bool, true, false, ◌&&◌, if◌then◌else◌, sym, refl, ap, ◌∙◌, ap₂, subst, leb-true, le-leb, arith}
use Rattle.scale.specs.Levels.{Level, level, level_leq, level_sub, capped}
use Rattle.scale.specs.LevelLaws.{at_most, capped_laws, capped_gaps}
use Rattle.theory.specs.Joins.{joins, when}
use Rattle.theory.specs.Problem.{Problem, Plan, Valid, Sound, functions, entry, score, score_by}
use Rattle.theory.specs.Graphs.{set_weight}
use Rattle.theory.specs.Links.{is_link, graph}
use Rattle.theory.specs.Cut.{Weighs, IsCut}
use Rattle.calls.proofs.Promised.{measuring_promised, stays_within}
use Rattle.shipped.specs.Plain.{total_below, word_at, first_word, second_word}
use Rattle.shipped.specs.Capped.{AreCapped, capped_of, capped_score, CappedWeight, CappedCut, capped_of_links, CappedPromise}
use Rattle.shipped.proofs.Levels.{are_levels, order_is, entry_is, shows}
use Rattle.shipped.proofs.Reported.{reported, attained, most}

-- joined is added, up to 1,000, where each value has this number
sum_is : (n : ℕ) (t : ℕ → Level) (g : ℕ → ℕ) → ((i : ℕ) → (t i).size ≡ g i) → (joins capped n t).size ≡ min 1000 (total_below n g)
unfolding joins total_below
sum_is zero t g each = refl
sum_is (suc n) t g each = omega (arith, sum_is n t g each, each n)

reads_is : (word : ℕ) → (capped.reads word).size ≡ capped_of word
reads_is word = grind arith

when_is : (b : Bool) (a : Level) → (when capped b a).size ≡ (if b then a.size else 0)
when_is true a = refl
when_is false a = refl

less_mono : (a a' b b' : Level) → level_leq a a' ≡ true → level_leq b' b ≡ true → level_leq (level_sub a b) (level_sub a' b') ≡ true
less_mono a a' b b' h k = le-leb _ _ (omega (arith, leb-true a.size a'.size h, leb-true b'.size b.size k))

sub_is : (a b : Level) → (level_sub a b).size ≡ a.size - b.size
sub_is a b = omega (arith, at_most a)

differ_is : (word word' : ℕ) → (level_sub (capped.reads word) (capped.reads word')).size ≡ capped_of word - capped_of word'
differ_is word word' = sub_is (capped.reads word) (capped.reads word') ∙ ap₂ ◌-◌ (reads_is word) (reads_is word')

module _ (P : Problem) where
  score_is : (y : Plan) → (score capped P y).size ≡ capped_score P y
  unfolding entry
  score_is y = sum_is (functions P) _ _ (λ f. reads_is (word_at P f y))

  links_are : (weight : ℕ → Level) (links : ℕ → Bool) → (set_weight capped (graph P) weight links).size ≡ capped_of_links P (λ n. (weight n).size) links
  links_are weight links = sum_is (4 * functions P) _ _ (λ n. when_is (is_link P n && links n) (weight n))

  least_is : {kept : ℕ → Bool} {cut : ℕ → Plan → Level} → IsCut capped P kept cut → (f : ℕ) (y : Plan) → f < functions P → Valid P y → CappedCut P kept f y (cut f y).size
  unfolding entry
  least_is {cut = cut} is_cut f y k valid =
      let lowest = is_cut f y k valid in
      let (z, ok, is) = lowest.attained in record {
        attained = (record { plan = z; valid = ok.0; same = ok.1 }, sym (reads_is (word_at P f z)) ∙ ap (λ (a : Level). a.size) is);
        least = λ z. subst (λ (n : ℕ). (cut f y).size ≤ n) (reads_is (word_at P f z.plan)) (leb-true _ _ (lowest.bound z.plan (z.valid, z.same)));
      }

  cuts_are : (cut : ℕ → Plan → Level) (y : Plan) → (score_by capped P cut y).size ≡ min 1000 (total_below (functions P) (λ f. (cut f y).size))
  cuts_are cut y = sum_is (functions P) _ _ (λ f. refl)

  weight_is : Sound P → (f p : ℕ) (w : Level) → Weighs capped P f p w → CappedWeight P f p w.size
  unfolding entry
  weight_is sound f p w g =
      let (c, is) = attained capped capped_laws level_sub (λ a b h. refl) less_mono P sound f p w g in record {
        attained = (c, sym (differ_is (first_word c) (second_word c)) ∙ ap (λ (a : Level). a.size) is);
        most = λ c. subst (λ (n : ℕ). n ≤ w.size) (differ_is (first_word c) (second_word c)) (leb-true _ _ (most capped capped_laws level_sub (λ a b h. refl) less_mono P sound f p w g c));
      }

pub capped_promised : CappedPromise capped
capped_promised start calls state begins runs standing is =
    let g = measuring_promised capped capped_laws capped_gaps start calls state begins runs standing is in
    let s = reported capped capped_laws start calls state begins runs is g.plainly in
    let P = state.problem in
    let sound = (stays_within capped start calls state begins runs).sound in record {
      valid = g.plainly.valid;
      scored = ap (λ (a : Level). a.size) g.plainly.scored ∙ score_is P _;
      at_most_ceiling = λ y valid. subst (λ (n : ℕ). n ≤ standing.figures.ceiling.size) (score_is P y) (leb-true _ _ (g.plainly.at_most_ceiling y valid));
      not_below_tree = leb-true _ _ g.plainly.not_below_tree;
      ceiling_is = ap (λ (a : Level). a.size) s.ceiling_is ∙ shows _;
      reached = λ e. ap (λ (a : Level). a.size) (s.reached e);
      kept = g.plainly.kept;
      kept_told = g.plainly.kept_told;
      cut = λ f y. (g.plainly.cut f y).size;
      cut_is = least_is P g.plainly.is_cut;
      at_most_tree = λ y valid. subst (λ (n : ℕ). n ≤ standing.figures.tree.size) (cuts_are P g.plainly.cut y) (leb-true _ _ (g.plainly.at_most_tree y valid));
      reaches_tree = sym (cuts_are P g.plainly.cut _) ∙ ap (λ (a : Level). a.size) g.plainly.reaches_tree;
      weight = λ n. (g.weight n).size;
      weights = λ f p k place. weight_is P sound f p _ (g.weights f p k place);
      removed_clear = g.removed_clear;
      removed_weigh = ap (λ (a : Level). a.size) (sym g.removed_weigh) ∙ links_are P g.weight _;
      at_least_removed = λ links clears. subst (λ (n : ℕ). standing.figures.removed.size ≤ n) (links_are P g.weight links) (leb-true _ _ (g.at_least_removed links clears));
    }

pub capped_are : AreCapped capped (λ c. level c.value)
capped_are = record {
  values = are_levels;
  means_is = λ c. shows c.value;
  order = order_is;
  join = λ a b. shows _;
  neutral = refl;
  gap = sub_is;
  entry = entry_is;
  reads = reads_is;
  neutral_word = refl;
  shown = λ a. refl;
  code = refl;
}
