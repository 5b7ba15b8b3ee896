-- The chain worked through. Assumes nothing.
use Rattle.std.proofs.Common.{◌≡◌, ℕ, ◌<◌, ◌≤◌, true, eqb, [], ◌∷◌, length, get_or, sym, refl, ap, ◌∙◌, subst, arith}
use Rattle.std.proofs.lemmas.Bool.{false≢true, leb-true}
use Rattle.scale.specs.Levels.{Level, level, level_leq, weakest}
use Rattle.scale.specs.LevelLaws.{weakest_laws}
use Rattle.theory.specs.Joins.{joins}
use Rattle.theory.specs.Problem.{Plan, Valid, Sound, size, at, scope_of, position, entry, score, score_by}
use Rattle.theory.specs.Graphs.{Uses, Joined, every, without}
use Rattle.theory.specs.Links.{link, graph}
use Rattle.theory.proofs.Sets.{without_apart}
use Rattle.theory.proofs.Straight.{cut_whole}
use Rattle.rules.specs.Figures.{planned}
use Rattle.worked.specs.Table.{chain, ChainReport, ChainStraight}
use Rattle.theory.proofs.LinkNumbers.{link_there}
use Rattle.worked.proofs.TwoByTwo.{one, two}
use Rattle.worked.proofs.PlanLists.{plan_is}
use Rattle.worked.proofs.PairKept.{eight, same_side}
use Rattle.rules.proofs.Guarantees.{straight_guaranteed, removed_neutral}

chain_sound : Sound chain
unfolding size at scope_of
chain_sound = record {
  nonempty = one (λ v. 1 ≤ size chain v) (omega arith);
  some_place = two (λ f. 1 ≤ length (scope_of chain f)) (omega arith) (omega arith);
  four_places = two (λ f. length (scope_of chain f) ≤ 4) (omega arith) (omega arith);
  known = λ f p k h. two (λ f. (p : ℕ) → p < length (scope_of chain f) → at chain f p < 1) (one (λ p. at chain 0 p < 1) (omega arith)) (one (λ p. at chain 1 p < 1) (omega arith)) f k p h;
  distinct = λ f p q k h i e. two (λ f. (p : ℕ) → p < length (scope_of chain f) → (q : ℕ) → q < length (scope_of chain f) → p ≡ q)
      (one (λ p. (q : ℕ) → q < 1 → p ≡ q) (one (λ q. 0 ≡ q) refl)) (one (λ p. (q : ℕ) → q < 1 → p ≡ q) (one (λ q. 0 ≡ q) refl)) f k p h q i;
  full = two _ refl refl;
}

-- a straight solve is accepted: the graph has no cycle
pub chain_straight : ChainStraight
unfolding at scope_of
chain_straight c = eight (λ n. Uses (graph chain) every n → Joined (graph chain) (without n every) ((graph chain).left n) ((graph chain).right n) → ⊥)
    (λ u j. false≢true (same_side (λ a. eqb a 1) (λ m v. eight (λ m. Uses (graph chain) (without 0 every) m → eqb ((graph chain).left m) 1 ≡ eqb ((graph chain).right m) 1) (λ v. absurd (without_apart every 0 0 v refl)) (λ v. absurd (false≢true v.there)) (λ v. absurd (false≢true v.there)) (λ v. absurd (false≢true v.there)) (λ v. refl) (λ v. absurd (false≢true v.there)) (λ v. absurd (false≢true v.there)) (λ v. absurd (false≢true v.there)) m v.below v) j))
    (λ u j. false≢true u.there) (λ u j. false≢true u.there) (λ u j. false≢true u.there)
    (λ u j. false≢true (same_side (λ a. eqb a 2) (λ m v. eight (λ m. Uses (graph chain) (without 4 every) m → eqb ((graph chain).left m) 2 ≡ eqb ((graph chain).right m) 2) (λ v. refl) (λ v. absurd (false≢true v.there)) (λ v. absurd (false≢true v.there)) (λ v. absurd (false≢true v.there)) (λ v. absurd (without_apart every 4 4 v refl)) (λ v. absurd (false≢true v.there)) (λ v. absurd (false≢true v.there)) (λ v. absurd (false≢true v.there)) m v.below v) j))
    (λ u j. false≢true u.there) (λ u j. false≢true u.there) (λ u j. false≢true u.there)
    c.link c.uses.below c.uses c.around

-- the score of a plan by its value
total : ℕ → Level
total x = weakest.join (weakest.join (level 1000) (weakest.reads (get_or (3 ∷ 8 ∷ []) x 0))) (weakest.reads (get_or (5 ∷ 4 ∷ []) x 0))

chain_score : (y : Plan) (x : ℕ) → x < 2 → y 0 ≡ x → (score weakest chain y).size ≡ (total x).size
unfolding total joins size scope_of position entry
chain_score y x h e = ap (λ (a : ℕ). (score weakest chain (λ _. a)).size) e ∙ two (λ x. (score weakest chain (λ _. x)).size ≡ (total x).size) refl refl x h

-- only the value 1 comes to 4
best : (x : ℕ) → x < 2 → 4 ≤ (total x).size → x ≡ 1
unfolding total
best x h = two (λ x. 4 ≤ (total x).size → x ≡ 1) (λ k. absurd (omega arith)) (λ k. refl) x h

pub chain_report : ChainReport
unfolding size total
chain_report figures stores solved =
    let w = solved.working in
    let r = solved.reports in
    let g = straight_guaranteed weakest weakest_laws chain chain_sound w r in
    let y = planned figures.plan in
    let fits : y 0 < 2 = g.valid 0 (omega arith) in
    let ones : Valid chain (λ _. 1) = one (λ v. 1 < size chain v) (omega arith) in
    let whole : (z : Plan) → Valid chain z → score_by weakest chain g.cut z ≡ score weakest chain z =
    cut_whole weakest chain g.kept (λ f p k place. g.by_rule.1.all_kept (link f p) ∙ link_there chain chain_sound f p k place) g.cut g.is_cut in
    let tree : figures.tree.size ≡ (total (y 0)).size = ap (λ (t : Level). t.size) (sym g.reaches_tree ∙ whole y g.valid) ∙ chain_score y (y 0) fits refl in
    let four : (score weakest chain (λ _. 1)).size ≡ 4 = chain_score (λ _. 1) 1 (omega arith) refl in
    let least = leb-true (score weakest chain (λ _. 1)).size figures.tree.size (subst (λ (t : Level). level_leq t figures.tree ≡ true) (whole (λ _. 1) ones) (g.at_most_tree (λ _. 1) ones)) in
    let first : y 0 ≡ 1 = best (y 0) fits (omega arith) in
    record {
      plan = plan_is figures.plan (1 ∷ []) 63 r.plan_length (one (λ v. y v ≡ get_or (1 ∷ []) v 0) first) r.plan_past;
      tree = tree ∙ ap (λ (x : ℕ). (total x).size) first;
      removed = ap (λ (t : Level). t.size) (removed_neutral weakest weakest_laws chain chain_sound w r);
    }
