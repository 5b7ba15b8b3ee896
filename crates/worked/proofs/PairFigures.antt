-- The figures of the pair. Assumes nothing.
use Rattle.std.proofs.Common.{int_le, ◌≡◌, ℕ, zero, suc, ◌<◌, Bool, true, cond, eqb, List, [], ◌∷◌, get_or, replicate, ℤ, pos, ◌+ℤ◌, sym, refl, ap, ◌∙◌, subst, ap₂, arith}
use Rattle.std.proofs.lemmas.Bool.{false≢true}
use Rattle.scale.specs.Points.{points}
use Rattle.scale.specs.Whole.{whole_laws, whole_gaps}
use Rattle.theory.specs.Joins.{joins, Lowest, count_below}
use Rattle.theory.specs.Problem.{Plan, Valid, size, at, scope_of, position, entry, score, score_by}
use Rattle.theory.specs.Graphs.{outside, set_weight}
use Rattle.theory.specs.Links.{link, graph}
use Rattle.theory.specs.Cut.{Agrees, IsCut}
use Rattle.theory.proofs.Extremes.{lowest_unique}
use Rattle.theory.specs.Kept.{kept_at}
use Rattle.rules.specs.Figures.{Packed, planned, share_of}
use Rattle.worked.specs.Table.{pair, PairReport}
use Rattle.rules.proofs.Bits.{packed_once}
use Rattle.rules.proofs.Guarantees.{bounded_guaranteed}
use Rattle.worked.proofs.TwoByTwo.{two}
use Rattle.worked.proofs.PlanLists.{plan_is}
use Rattle.worked.proofs.Pair.{pair_sound, valid_one, same_plan, told, table_0, table_1}
use Rattle.worked.proofs.PairKept.{weight_of, kept_of, weights_are, kept_by, fifty, fifty_packed}

-- what the functions give at the values a and b
entry_0 : (y : Plan) (a b : ℕ) → y 0 ≡ a → y 1 ≡ b → entry points pair 0 y ≡ told table_0 a b
unfolding size scope_of position entry
entry_0 y a b d e = ap₂ (told table_0) d e

entry_1 : (y : Plan) (a b : ℕ) → y 0 ≡ a → y 1 ≡ b → entry points pair 1 y ≡ told table_1 a b
unfolding size scope_of position entry
entry_1 y a b d e = ap₂ (told table_1) d e

abbrev low_0 : ℕ → ℤ
low_0 b = cond (eqb b 0) (pos 0) (pos 2)

-- the lowest entry of function 0 at a value of variable 1
lowest_0 : (y : Plan) → Valid pair y → Lowest points (λ z. Valid pair z × Agrees pair kept_of 0 y z) (entry points pair 0) (low_0 (y 1))
unfolding size at scope_of
lowest_0 y valid = go (y 1) refl (valid_one y valid).1
  where
    bounds : (b : ℕ) → b < 2 → (z : Plan) → Valid pair z → z 1 ≡ b → int_le (low_0 b) (entry points pair 0 z) ≡ true
    bounds b k z ok e = subst (λ (t : ℤ). int_le (low_0 b) t ≡ true) (sym (entry_0 z (z 0) b refl e))
        (two (λ a. int_le (low_0 b) (told table_0 a b) ≡ true) (two (λ b. int_le (low_0 b) (told table_0 0 b) ≡ true) refl refl b k) (two (λ b. int_le (low_0 b) (told table_0 1 b) ≡ true) refl refl b k) (z 0) (valid_one z ok).0)

    go : (b : ℕ) → y 1 ≡ b → b < 2 → Lowest points (λ z. Valid pair z × Agrees pair kept_of 0 y z) (entry points pair 0) (low_0 b)
    go zero e k = record {
      attained = ((λ _. 0), (same_plan 0 (omega arith), two (λ p. kept_of (link 0 p) ≡ true → 0 ≡ y (at pair 0 p)) (λ h. absurd (false≢true h)) (λ h. sym e)), entry_0 (λ _. 0) 0 0 refl refl);
      bound = λ z ok. bounds 0 k z ok.0 (ok.1 1 (omega arith) refl ∙ e);
    }
    go (suc zero) e k = record {
      attained = ((λ _. 1), (same_plan 1 (omega arith), two (λ p. kept_of (link 0 p) ≡ true → 1 ≡ y (at pair 0 p)) (λ h. absurd (false≢true h)) (λ h. sym e)), entry_0 (λ _. 1) 1 1 refl refl);
      bound = λ z ok. bounds 1 k z ok.0 (ok.1 1 (omega arith) refl ∙ e);
    }
    go (suc (suc b)) e k = absurd (omega arith)

abbrev total : ℕ → ℕ → ℤ
total a b = (pos 0 +ℤ low_0 b) +ℤ told table_1 a b

-- the cut score of a plan
cut_score : (cut : ℕ → Plan → ℤ) → IsCut points pair kept_of cut → (y : Plan) → Valid pair y → score_by points pair cut y ≡ total (y 0) (y 1)
unfolding joins at scope_of
cut_score cut is_cut y valid =
    let first : cut 0 y ≡ low_0 (y 1) = lowest_unique points whole_laws (λ z ok. ok) (λ z ok. ok) (is_cut 0 y (omega arith) valid) (lowest_0 y valid) in
    let (z, ok, is) = (is_cut 1 y (omega arith) valid).attained in
    let second : cut 1 y ≡ told table_1 (y 0) (y 1) = sym is ∙ entry_1 z (y 0) (y 1) (ok.1 0 (omega arith) refl) (ok.1 1 (omega arith) refl) in
    ap₂ (λ (s t : ℤ). (pos 0 +ℤ s) +ℤ t) first second

-- only the values 1 and 1 come to 7
best : (a b : ℕ) → a < 2 → b < 2 → int_le (pos 7) (total a b) ≡ true → (a ≡ 1) × (b ≡ 1)
best a b h k = two (λ a. int_le (pos 7) (total a b) ≡ true → (a ≡ 1) × (b ≡ 1))
    (two (λ b. int_le (pos 7) (total 0 b) ≡ true → (◌≡◌ {A = ℕ} 0 1) × (b ≡ 1)) (λ e. absurd (false≢true e)) (λ e. absurd (false≢true e)) b k)
    (two (λ b. int_le (pos 7) (total 1 b) ≡ true → (◌≡◌ {A = ℕ} 1 1) × (b ≡ 1)) (λ e. absurd (false≢true e)) (λ e. (refl, refl)) b k) a h

abbrev best_plan : List ℕ
best_plan = 1 ∷ 1 ∷ replicate 62 0

kept_three : count_below (kept_at fifty) 256 ≡ 3
unfolding count_below
kept_three = refl

removed_two : set_weight points (graph pair) weight_of (outside kept_of) ≡ pos 2
unfolding joins scope_of
removed_two = refl

score_seven : score points pair (planned best_plan) ≡ pos 7
unfolding joins size scope_of position entry
score_seven = refl

pub pair_figures : PairReport
unfolding size
pair_figures figures stores solved =
    let w = solved.working in
    let r = solved.reports in
    let by_weight_lem = weights_are w.weight w.kept w.by_rule in
    let by-kept = kept_by w.weight w.kept w.by_rule in
    let g = bounded_guaranteed points whole_laws pair pair_sound whole_gaps w r in
    let y = planned figures.plan in
    let valid = g.valid in
    let (weight, by_rule) = g.by_rule in
    let cut_of : IsCut points pair kept_of g.cut = subst (λ (k : ℕ → Bool). IsCut points pair k g.cut) (kept_by weight g.kept by_rule) g.is_cut in
    -- the tree value is our plan's cut score, and at least that of 1 and 1
    let tree : figures.tree ≡ total (y 0) (y 1) = sym g.reaches_tree ∙ cut_score g.cut cut_of y valid in
    let least : int_le (pos 7) figures.tree ≡ true = subst (λ (t : ℤ). int_le t figures.tree ≡ true) (cut_score g.cut cut_of (λ _. 1) (same_plan 1 (omega arith))) (g.at_most_tree (λ _. 1) (same_plan 1 (omega arith))) in
    let ones = best (y 0) (y 1) (valid_one y valid).0 (valid_one y valid).1 (subst (λ (t : ℤ). int_le (pos 7) t ≡ true) tree least) in
    let seven : figures.tree ≡ pos 7 = tree ∙ ap₂ total ones.0 ones.1 in
    let plan : figures.plan ≡ best_plan = plan_is figures.plan (1 ∷ 1 ∷ []) 62 r.plan_length (two (λ v. y v ≡ get_or (1 ∷ 1 ∷ []) v 0) ones.0 ones.1) r.plan_past in
    let kept : figures.kept ≡ fifty = packed_once kept_of figures.kept fifty (subst (λ (k : ℕ → Bool). Packed k figures.kept) by-kept r.kept_words) fifty_packed in
    let removed : figures.removed ≡ pos 2 = r.removed_is ∙ ap₂ (λ (v : ℕ → ℤ) (k : ℕ → Bool). set_weight points (graph pair) v (outside k)) by_weight_lem by-kept ∙ removed_two in
    let scored : figures.score ≡ pos 7 = r.score_is ∙ ap (λ (l : List ℕ). score points pair (planned l)) plan ∙ score_seven in
    let ceiling : figures.ceiling ≡ pos 9 = r.ceiling_is ∙ ap₂ ◌+ℤ◌ seven removed in
    record {
      plan = plan;
      kept = kept;
      kept_count = r.kept_counted ∙ ap (λ (l : List ℕ). count_below (kept_at l) 256) kept ∙ kept_three;
      tree = seven;
      score = scored;
      removed = removed;
      ceiling = ceiling;
      share = r.share_is ∙ ap₂ share_of scored ceiling;
    }
