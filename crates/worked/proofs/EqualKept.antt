-- Which links are kept where all weigh the same. Assumes nothing.
use Rattle.std.proofs.Common.{◌≡◌, ℕ, ◌<◌, Bool, true, false, eqb, List, [], ◌∷◌, ℤ, pos, refl, ap, sym, subst, arith}
use Rattle.std.proofs.lemmas.Bool.{false≢true}
use Rattle.scale.specs.Points.{points}
use Rattle.scale.specs.Whole.{whole_laws}
use Rattle.theory.specs.Problem.{Plan, Valid, put, size, at, scope_of, entry, position}
use Rattle.theory.specs.Graphs.{stay, along, back}
use Rattle.theory.specs.Cut.{Weighs}
use Rattle.theory.specs.Bounded.{Bounded}
use Rattle.theory.specs.Kept.{kept_at}
use Rattle.rules.specs.Figures.{Packed}
use Rattle.rules.proofs.Bits.{packed_once}
use Rattle.worked.specs.Ties.{equal_pair, EqualWeights}
use Rattle.worked.proofs.TwoByTwo.{two, weighs_two, high, low}
use Rattle.worked.proofs.Pair.{told}
use Rattle.worked.proofs.PairKept.{all_below, alike, of_links, packed_told, weights_from, kept_apart, earlier, removed_round, kept_from}

abbrev words : List ℕ
words = 0 ∷ 1 ∷ 1 ∷ 0 ∷ []

zeros : Valid equal_pair (λ _. 0)
unfolding size
zeros = two (λ v. 0 < size equal_pair v) (omega arith) (omega arith)

fits : (z : Plan) → Valid equal_pair z → (z 0 < 2) × (z 1 < 2)
unfolding size
fits z valid = (valid 0 (omega arith), valid 1 (omega arith))

-- a link weighs 1 where the gap comes to 1 at both values of the other variable
module _ (f p u : ℕ) (T : ℕ → ℕ → ℤ) (entries : (y : Plan) (x : ℕ) → entry points equal_pair f (put y (at equal_pair f p) x) ≡ T x (y u)) (size-here : size equal_pair (at equal_pair f p) ≡ 2) where
  abbrev swing : ℕ → ℤ
  swing c = points.gap (high points whole_laws equal_pair f p u T entries size-here c) (low points whole_laws equal_pair f p u T entries size-here c)

  weighs_one : swing 0 ≡ pos 1 → swing 1 ≡ pos 1 → ((z : Plan) → Valid equal_pair z → z u < 2) → Weighs points equal_pair f p (pos 1)
  weighs_one first second within =
      weighs_two points whole_laws equal_pair f p u T entries size-here (pos 1) (λ _. 0) zeros first
      (λ z valid. two (λ c. points.leq (swing c) (pos 1) ≡ true) (ap (λ (t : ℤ). points.leq t (pos 1)) first) (ap (λ (t : ℤ). points.leq t (pos 1)) second) (z u) (within z valid))

-- the weights of its links 0, 1, 4 and 5
abbrev weight_of : ℕ → ℤ
weight_of = of_links (pos 1) (pos 1) (pos 1) (pos 1) (pos 0)

weights_are : (weight : ℕ → ℤ) (kept : ℕ → Bool) → Bounded points equal_pair weight kept → weight ≡ weight_of
unfolding size at scope_of entry position
weights_are = weights_from words words (pos 1) (pos 1) (pos 1) (pos 1)
    (weighs_one 0 0 1 (λ x c. told words x c) (λ y x. refl) refl refl refl (λ z valid. (fits z valid).1))
    (weighs_one 0 1 0 (λ x c. told words c x) (λ y x. refl) refl refl refl (λ z valid. (fits z valid).0))
    (weighs_one 1 0 1 (λ x c. told words x c) (λ y x. refl) refl refl refl (λ z valid. (fits z valid).1))
    (weighs_one 1 1 0 (λ x c. told words c x) (λ y x. refl) refl refl refl (λ z valid. (fits z valid).0))

abbrev kept_of : ℕ → Bool
kept_of = of_links true true true false false

kept_are : (kept : ℕ → Bool) → Bounded points equal_pair weight_of kept → kept ≡ kept_of
unfolding at scope_of all_below alike
kept_are kept by =
    let apart = kept_apart words words weight_of kept by in
    let early = earlier words words weight_of kept by 5 in
    let kept_0 = apart 0 (λ a. eqb a 2) (omega arith) refl refl false≢true in
    let kept_1 = apart 1 (λ a. eqb a 1) (omega arith) refl refl (λ e. false≢true (sym e)) in
    let kept_4 = apart 4 (λ a. eqb a 3) (omega arith) refl refl false≢true in
    -- round by the links 1, 0 and 4
    let removed_5 = removed_round words words weight_of kept by 5 (omega arith) refl
    (along 1 (early 1 (omega arith) refl kept_1 refl) refl (back 0 (early 0 (omega arith) refl kept_0 refl) refl (along 4 (early 4 (omega arith) refl kept_4 refl) refl stay))) in
    kept_from words words weight_of kept by true true true false kept_0 kept_1 kept_4 removed_5

-- word 0 with bits 0, 1 and 4 set
abbrev nineteen : List ℕ
nineteen = 19 ∷ 0 ∷ 0 ∷ 0 ∷ []

nineteen_packed : Packed kept_of nineteen
unfolding all_below alike
nineteen_packed = packed_told kept_of nineteen refl refl refl

kept_by : (weight : ℕ → ℤ) (kept : ℕ → Bool) → Bounded points equal_pair weight kept → kept ≡ kept_of
kept_by weight kept by = kept_are kept (subst (λ (w : ℕ → ℤ). Bounded points equal_pair w kept) (weights_are weight kept by) by)

pub equal_weights : EqualWeights
equal_weights weight list four small by =
    packed_once kept_of list nineteen (record { four = four; small = small; bits = λ n h. ap (λ (K : ℕ → Bool). K n) (kept_by weight (kept_at list) by) }) nineteen_packed
