-- The report of a solve keeps what is guaranteed. Assumes nothing.
use Rattle.std.proofs.Common.{◌≡◌, ℕ, ◌/◌, ◌%◌, ◌<◌, Bool, true, false, not, ◌&&◌, sym, refl, ap, ◌∙◌, subst, arith}
use Rattle.std.proofs.lemmas.Bool.{ltb-true, and_parts}
use Rattle.scale.specs.Rules.{Rules}
use Rattle.scale.specs.Laws.{Plain, Gaps}
use Rattle.theory.specs.Joins.{when, Highest}
use Rattle.theory.specs.Problem.{Problem, Plan, Valid, Sound, arity, score, score_by}
use Rattle.theory.specs.Graphs.{Graph, every, outside, set_weight}
use Rattle.theory.specs.KeptBy.{Rule, straight, bounded, Straight}
use Rattle.theory.specs.Bounded.{Bounded}
use Rattle.theory.specs.Links.{link, is_link, graph}
use Rattle.theory.specs.Cut.{Weights, removed_weight}
use Rattle.theory.proofs.Related.{Leq, leq_of_eq, leq_chain, leq_related}
use Rattle.theory.proofs.Joins.{joins_related, joins_none}
use Rattle.theory.proofs.Walks.{cycle_within}
use Rattle.theory.proofs.Weighed.{lightest_set, graph_whole}
use Rattle.theory.proofs.Orders.{before_order}
use Rattle.theory.proofs.Kept.{kept_clears}
use Rattle.theory.proofs.LinkNumbers.{link_there, link_own}
use Rattle.theory.proofs.LinkOrder.{link_order}
use Rattle.theory.proofs.Straight.{cut_whole}
use Rattle.theory.proofs.Ceiling.{ceiling}
use Rattle.theory.proofs.CutTables.{cut_score_below_lem}
use Rattle.theory.proofs.TreeValue.{score_at_most, score_reached}
use Rattle.theory.proofs.TablesExist.{some_weights}
use Rattle.rules.specs.Figures.{Figures, planned}
use Rattle.rules.specs.Report.{Working, Reports}
use Rattle.rules.specs.Guarantees.{Guaranteed, GuaranteedLightest}
use Rattle.rules.specs.Theorems.{ReportGuarantees, ReportLightest, StraightHighest}
use Rattle.rules.proofs.Picked.{plan_valid, plan_picked}

both_not : (b : Bool) → (b && not b) ≡ false
both_not true = refl
both_not false = refl

module _ {E : Type 0} (R : Rules E) (L : Plain R) where
  -- no set of links weighs less than nothing, where no link does
  set_rises : (G : Graph) (w : ℕ → E) (C : ℕ → Bool) → ((n : ℕ) → n < G.links → G.present n ≡ true → Leq R R.neutral (w n)) → Leq R R.neutral (set_weight R G w C)
  set_rises G w C each =
      leq_chain R L (leq_of_eq R L (sym (joins_none R L G.links {g = λ n. R.neutral} (λ n k. refl))))
      (joins_related (leq_related R L) G.links (λ n k. one n k (G.present n && C n) refl))
    where
      one : (n : ℕ) → n < G.links → (b : Bool) → (G.present n && C n) ≡ b → Leq R R.neutral (when R b (w n))
      one n k true e = each n k (and_parts (G.present n) (C n) e).0
      one n k false e = leq_of_eq R L refl

  -- nothing weighs nothing
  set_none : (G : Graph) (w : ℕ → E) (C : ℕ → Bool) → ((n : ℕ) → (G.present n && C n) ≡ false) → set_weight R G w C ≡ R.neutral
  set_none G w C none = joins_none R L G.links (λ n k. ap (λ (b : Bool). when R b (w n)) (none n))

  module _ (P : Problem) (sound : Sound P) where
    weights_rise : Gaps R → (w : ℕ → E) → Weights R P w → (n : ℕ) → n < (graph P).links → is_link P n ≡ true → Leq R R.neutral (w n)
    weights_rise G w weights n below there =
        let place = ltb-true (n % 4) (arity P (n / 4)) there in
        let s = (weights (n / 4) (n % 4) (omega arith) place).attained in
        subst (λ (i : ℕ). Leq R R.neutral (w i)) (link_own n) (subst (λ (g : E). Leq R R.neutral g) s.is (G.rises s.high s.low))

    module _ {rule : Rule} {figures : Figures E} (w : Working R P rule) (r : Reports R P w figures) where
      -- all but the ceiling
      guaranteed : ((y : Plan) → Valid P y → Leq R (score R P y) figures.ceiling) → Guaranteed R P rule figures
      guaranteed at_most =
          let y = planned figures.plan in
          let valid = plan_valid R L P sound w y r.plan_chosen in
          let reached = score_reached R L P sound w.kept w.hanging w.hung w.cut w.messages y (plan_picked R L P sound w y r.plan_chosen) ∙ sym r.tree_is in record {
            kept = w.kept;
            by_rule = (w.weight, w.by_rule);
            kept_told = r.kept_words;
            cut = w.cut;
            is_cut = w.is_cut;
            valid = valid;
            scored = r.score_is;
            at_most_ceiling = at_most;
            at_most_tree = λ z ok. leq_chain R L (score_at_most R L P sound w.kept w.hanging w.hung w.cut w.messages z ok) (leq_of_eq R L (sym r.tree_is));
            reaches_tree = reached;
            not_below_tree = leq_chain R L (leq_of_eq R L (sym reached)) (leq_chain R L (cut_score_below_lem R L P w.kept w.is_cut y valid) (leq_of_eq R L (sym r.score_is)));
          }

    module _ {figures : Figures E} (w : Working R P straight) (r : Reports R P w figures) where
      abbrev s : Straight R P w.weight w.kept
      s = w.by_rule

      none_removed : (weight : ℕ → E) → set_weight R (graph P) weight (outside w.kept) ≡ R.neutral
      none_removed weight = set_none (graph P) weight (outside w.kept) (λ n. ap (λ (b : Bool). is_link P n && not b) (s.all_kept n) ∙ both_not (is_link P n))

      pub removed_neutral : figures.removed ≡ R.neutral
      removed_neutral = r.removed_is ∙ none_removed w.weight

      -- nothing is cut
      score_whole : (y : Plan) → Valid P y → score_by R P w.cut y ≡ score R P y
      score_whole = cut_whole R P w.kept (λ f p k place. s.all_kept (link f p) ∙ link_there P sound f p k place) w.cut w.is_cut

      at_most_tree : (y : Plan) → Valid P y → Leq R (score R P y) figures.tree
      at_most_tree y valid =
          leq_chain R L (leq_of_eq R L (sym (score_whole y valid)))
          (leq_chain R L (score_at_most R L P sound w.kept w.hanging w.hung w.cut w.messages y valid) (leq_of_eq R L (sym r.tree_is)))

      pub straight_guaranteed : Guaranteed R P straight figures
      straight_guaranteed = guaranteed w r (λ y valid.
          leq_chain R L (at_most_tree y valid) (leq_of_eq R L (sym (L.unit figures.tree) ∙ ap (R.join figures.tree) (sym removed_neutral) ∙ sym r.ceiling_is)))

      pub tree_highest : Highest R (Valid P) (score R P) figures.tree
      tree_highest =
          let y = planned figures.plan in
          let picked = plan_picked R L P sound w y r.plan_chosen in
          let valid = plan_valid R L P sound w y r.plan_chosen in record {
            attained = (y, valid, sym (score_whole y valid) ∙ score_reached R L P sound w.kept w.hanging w.hung w.cut w.messages y picked ∙ sym r.tree_is);
            bound = at_most_tree;
          }

      pub straight_lightest : Gaps R → GuaranteedLightest R P straight figures
      unfolding straight_guaranteed guaranteed
      straight_lightest G =
          let (weight, weights) = some_weights R P sound L in record {
            plainly = straight_guaranteed;
            weight = weight;
            weights = weights;
            at_least_removed = λ C clears. leq_chain R L (leq_of_eq R L removed_neutral) (set_rises (graph P) weight C (weights_rise G weight weights));
            removed_clear = λ c. s.no_cycle (cycle_within (outside (outside w.kept)) every (λ n u. refl) c);
            removed_weigh = none_removed weight ∙ sym removed_neutral;
          }

    module _ (G : Gaps R) {figures : Figures E} (w : Working R P bounded) (r : Reports R P w figures) where
      abbrev b : Bounded R P w.weight w.kept
      b = w.by_rule

      pub bounded_guaranteed : Guaranteed R P bounded figures
      bounded_guaranteed = guaranteed w r (λ y valid.
          leq_chain R L (ceiling R L P sound w.kept G w.cut w.is_cut w.weight b.weights y valid w.hanging w.hung w.messages)
          (leq_of_eq R L (ap (λ (t : E). R.join t (removed_weight R P w.kept w.weight)) (sym r.tree_is) ∙ ap (R.join figures.tree) (sym (link_order R L P sound w.kept w.weight) ∙ sym r.removed_is) ∙ sym r.ceiling_is)))

      pub bounded_lightest : GuaranteedLightest R P bounded figures
      unfolding bounded_guaranteed guaranteed
      bounded_lightest = record {
        plainly = bounded_guaranteed;
        weight = w.weight;
        weights = b.weights;
        at_least_removed = λ C clears. leq_chain R L (leq_of_eq R L r.removed_is) (lightest_set R L (graph P) (graph_whole P sound) w.weight (weights_rise G w.weight b.weights) w.kept b.keeps C clears);
        removed_clear = kept_clears (graph_whole P sound) (before_order L w.weight) w.kept b.keeps;
        removed_weigh = sym r.removed_is;
      }

pub report_guaranteed : {E : Type 0} → ReportGuarantees E
report_guaranteed R L P sound straight gaps figures stores solved = straight_guaranteed R L P sound solved.working solved.reports
report_guaranteed R L P sound bounded gaps figures stores solved = bounded_guaranteed R L P sound (gaps refl) solved.working solved.reports

pub lightest_guaranteed : {E : Type 0} → ReportLightest E
lightest_guaranteed R L G P sound straight figures stores solved = straight_lightest R L P sound solved.working solved.reports G
lightest_guaranteed R L G P sound bounded figures stores solved = bounded_lightest R L P sound G solved.working solved.reports

pub straight_highest : {E : Type 0} → StraightHighest E
straight_highest R L P sound figures stores solved = tree_highest R L P sound solved.working solved.reports
