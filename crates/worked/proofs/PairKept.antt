-- Which links are kept, of two functions of two variables: the pair, and what it shares with any words. Assumes nothing.
use Rattle.std.proofs.Common.{int_le, ◌≡◌, ℕ, zero, suc, ◌^◌, ◌<◌, ◌≤◌, Bool, true, false, cond, not, ◌&&◌, ◌||◌, eqb, ltb, List, [], ◌∷◌, length, get_or, ℤ, pos, sym, refl, ap, ◌∙◌, subst, ⊎_elim, arith}
use mathlib.Core.Path.{fun_ext}
use Rattle.std.proofs.lemmas.Bool.{cases_Bool, cases_eq, cases_lt, and_parts, and_from, or_cases, not-true, false≢true, both_ways, ne_eqb, ltb-true}
use Rattle.scale.specs.Points.{points}
use Rattle.scale.specs.Whole.{whole_laws}
use Rattle.theory.specs.Problem.{Problem, at, scope_of}
use Rattle.theory.specs.Graphs.{Graph, Uses, Joined, stay, along, back}
use Rattle.theory.specs.Keeping.{before}
use Rattle.theory.specs.Links.{is_link, graph}
use Rattle.theory.specs.Cut.{Weighs}
use Rattle.theory.specs.Bounded.{Bounded}
use Rattle.theory.specs.Kept.{kept_at}
use Rattle.theory.proofs.LinkNumbers.{link_known}
use Rattle.rules.specs.Figures.{Packed}
use Rattle.rules.proofs.Bits.{packed_once}
use Rattle.rules.proofs.Weights.{weighs_once}
use Rattle.worked.specs.Table.{pair, PairKept}
use Rattle.worked.proofs.Pair.{pair_weights, table_0, table_1}

pub eight : (Q : ℕ → Type 0) → Q 0 → Q 1 → Q 2 → Q 3 → Q 4 → Q 5 → Q 6 → Q 7 → (n : ℕ) → n < 8 → Q n
eight Q a b c d e f g h zero k = a
eight Q a b c d e f g h (suc zero) k = b
eight Q a b c d e f g h (suc (suc zero)) k = c
eight Q a b c d e f g h (suc (suc (suc zero))) k = d
eight Q a b c d e f g h (suc (suc (suc (suc zero)))) k = e
eight Q a b c d e f g h (suc (suc (suc (suc (suc zero))))) k = f
eight Q a b c d e f g h (suc (suc (suc (suc (suc (suc zero)))))) k = g
eight Q a b c d e f g h (suc (suc (suc (suc (suc (suc (suc zero))))))) k = h
eight Q a b c d e f g h (suc (suc (suc (suc (suc (suc (suc (suc n)))))))) k = absurd (omega arith)

-- by the first eight numbers, and the rest
each : (Q : ℕ → Type 0) → Q 0 → Q 1 → Q 2 → Q 3 → Q 4 → Q 5 → Q 6 → Q 7 → ((n : ℕ) → 8 ≤ n → Q n) → (n : ℕ) → Q n
each Q a b c d e f g h rest n = ⊎_elim (λ (k : n < 8). eight Q a b c d e f g h n k) (λ (k : 8 ≤ n). rest n k) (cases_lt n 8)

-- where each used link has both ends in X or none, so has a walk
pub same_side : {G : Graph} {S : ℕ → Bool} {a b : ℕ} (X : ℕ → Bool) → ((n : ℕ) → Uses G S n → X (G.left n) ≡ X (G.right n)) → Joined G S a b → X a ≡ X b
same_side X sides stay = refl
same_side X sides (along n u e j) = ap X (sym e) ∙ sides n u ∙ same_side X sides j
same_side X sides (back n u e j) = ap X (sym e) ∙ sym (sides n u) ∙ same_side X sides j

-- a test of all the numbers below a bound, by computing
unfoldable pub all_below : (ℕ → Bool) → ℕ → Bool
all_below test zero = true
all_below test (suc n) = test n && all_below test n

all_told : (test : ℕ → Bool) (n : ℕ) → all_below test n ≡ true → (i : ℕ) → i < n → test i ≡ true
unfolding all_below
all_told test zero e i h = absurd (omega arith)
all_told test (suc n) e i h =
    let parts = and_parts (test n) (all_below test n) e in
    ⊎_elim (λ (d : i ≡ n). ap test d ∙ parts.0) (λ ne. all_told test n parts.1 i (omega arith)) (cases_eq i n)

unfoldable pub alike : Bool → Bool → Bool
alike true b = b
alike false b = not b

alike_same : (a b : Bool) → alike a b ≡ true → a ≡ b
unfolding alike
alike_same true true e = refl
alike_same true false e = sym e
alike_same false true e = e
alike_same false false e = refl

-- the links 0, 1, 4 and 5 have these, and other numbers have `none`
abbrev pub of_links : {A : Type 0} → A → A → A → A → A → ℕ → A
of_links a b c d none n = cond (eqb n 0) a (cond (eqb n 1) b (cond (eqb n 4) c (cond (eqb n 5) d none)))

beyond : {A : Type 0} (a b c d none : A) (n : ℕ) → 8 ≤ n → of_links a b c d none n ≡ none
beyond a b c d none n h = rw (ne_eqb n 0 (λ e. omega arith), ne_eqb n 1 (λ e. omega arith), ne_eqb n 4 (λ e. omega arith), ne_eqb n 5 (λ e. omega arith))

-- four words are a packing by a test of each bit
pub packed_told : (S : ℕ → Bool) (words : List ℕ) → length words ≡ 4 → all_below (λ k. ltb (get_or words k 0) (2 ^ 64)) 4 ≡ true → all_below (λ n. alike (kept_at words n) (S n)) 256 ≡ true → Packed S words
packed_told S words four small bits = record {
  four = four;
  small = λ k h. ltb-true (get_or words k 0) (2 ^ 64) (all_told (λ k. ltb (get_or words k 0) (2 ^ 64)) 4 small k h);
  bits = λ n h. alike_same (kept_at words n) (S n) (all_told (λ n. alike (kept_at words n) (S n)) 256 bits n h);
}

-- two functions of two variables of size 2, with the given words
abbrev pub both_of : List ℕ → List ℕ → Problem
both_of words words' = record { domains = 2 ∷ 2 ∷ []; tables = record { scope = 0 ∷ 1 ∷ []; words = words } ∷ record { scope = 0 ∷ 1 ∷ []; words = words' } ∷ [] }

module _ (words words' : List ℕ) where
  abbrev P : Problem
  P = both_of words words'

  abbrev G : Graph
  G = graph P

  -- past the eighth number there is no link
  past : (n : ℕ) → 8 ≤ n → is_link P n ≡ false
  past n h = ⊎_elim (λ there. let k = link_known P n there in absurd (omega arith)) (λ e. e) (cases_Bool (is_link P n))

  pub weights_from : (a b c d : ℤ) → Weighs points P 0 0 a → Weighs points P 0 1 b → Weighs points P 1 0 c → Weighs points P 1 1 d →
      (weight : ℕ → ℤ) (kept : ℕ → Bool) → Bounded points P weight kept → weight ≡ of_links a b c d (pos 0)
  unfolding scope_of
  weights_from a b c d link_0 link_1 link_4 link_5 weight kept by = fun_ext (each (λ n. weight n ≡ of_links a b c d (pos 0) n)
      (weighs_once points whole_laws P 0 0 (weight 0) a (by.weights 0 0 (omega arith) (omega arith)) link_0)
      (weighs_once points whole_laws P 0 1 (weight 1) b (by.weights 0 1 (omega arith) (omega arith)) link_1)
      (by.unweighed 2 refl)
      (by.unweighed 3 refl)
      (weighs_once points whole_laws P 1 0 (weight 4) c (by.weights 1 0 (omega arith) (omega arith)) link_4)
      (weighs_once points whole_laws P 1 1 (weight 5) d (by.weights 1 1 (omega arith) (omega arith)) link_5)
      (by.unweighed 6 refl)
      (by.unweighed 7 refl)
      (λ n h. by.unweighed n (past n h) ∙ sym (beyond a b c d (pos 0) n h)))

  module _ (weight : ℕ → ℤ) (kept : ℕ → Bool) (by : Bounded points P weight kept) where
    -- A link is kept where X has one of its ends, and of each link considered before it both or none.
    pub kept_apart : (n : ℕ) (X : ℕ → Bool) → n < 8 → is_link P n ≡ true → all_below (λ m. not (before int_le weight m n) || alike (X (G.left m)) (X (G.right m))) 8 ≡ true →
        (X (G.left n) ≡ X (G.right n) → ⊥) → kept n ≡ true
    kept_apart n X h there test apart = (by.keeps n h there).1 (λ j. apart (same_side X (λ m u.
        let early = (and_parts (kept m) (before int_le weight m n) u.chosen).1 in
        ⊎_elim
        (λ late. absurd (both_ways (before int_le weight m n) (not-true (before int_le weight m n) late) early))
        (λ same. alike_same (X (G.left m)) (X (G.right m)) same)
        (or_cases (not (before int_le weight m n)) _ (all_told (λ m. not (before int_le weight m n) || alike (X (G.left m)) (X (G.right m))) 8 test m u.below)))
        j))

    -- a link that is considered before n
    pub earlier : (n m : ℕ) → m < 8 → is_link P m ≡ true → kept m ≡ true → before int_le weight m n ≡ true → Uses G (λ m. kept m && before int_le weight m n) m
    earlier n m h there keeps early = record { below = h; there = there; chosen = and_from (kept m) (before int_le weight m n) keeps early }

    -- a link is not kept where those considered before it join its ends
    pub removed_round : (n : ℕ) → n < 8 → is_link P n ≡ true → Joined G (λ m. kept m && before int_le weight m n) (G.left n) (G.right n) → kept n ≡ false
    removed_round n h there j = ⊎_elim (λ e. absurd ((by.keeps n h there).0 e j)) (λ e. e) (cases_Bool (kept n))

    pub kept_from : (a b c d : Bool) → kept 0 ≡ a → kept 1 ≡ b → kept 4 ≡ c → kept 5 ≡ d → kept ≡ of_links a b c d false
    unfolding scope_of
    kept_from a b c d link_0 link_1 link_4 link_5 = fun_ext (each (λ n. kept n ≡ of_links a b c d false n)
        link_0 link_1 (by.unkept 2 refl) (by.unkept 3 refl) link_4 link_5 (by.unkept 6 refl) (by.unkept 7 refl) (λ n h. by.unkept n (past n h) ∙ sym (beyond a b c d false n h)))

-- The pair.
abbrev pub weight_of : ℕ → ℤ
weight_of = of_links (pos 2) (pos 4) (pos 5) (pos 5) (pos 0)

abbrev pub kept_of : ℕ → Bool
kept_of = of_links false true true true false

pub weights_are : (weight : ℕ → ℤ) (kept : ℕ → Bool) → Bounded points pair weight kept → weight ≡ weight_of
weights_are = weights_from table_0 table_1 (pos 2) (pos 4) (pos 5) (pos 5) pair_weights.link_0 pair_weights.link_1 pair_weights.link_4 pair_weights.link_5

kept_are : (kept : ℕ → Bool) → Bounded points pair weight_of kept → kept ≡ kept_of
unfolding at scope_of all_below alike
kept_are kept by =
    let apart = kept_apart table_0 table_1 weight_of kept by in
    let early = earlier table_0 table_1 weight_of kept by 0 in
    let kept_4 = apart 4 (λ a. eqb a 0) (omega arith) refl refl (λ e. false≢true (sym e)) in
    let kept_5 = apart 5 (λ a. eqb a 1) (omega arith) refl refl (λ e. false≢true (sym e)) in
    let kept_1 = apart 1 (λ a. eqb a 2) (omega arith) refl refl false≢true in
    -- round by the links 4, 5 and 1
    let removed_0 = removed_round table_0 table_1 weight_of kept by 0 (omega arith) refl
    (along 4 (early 4 (omega arith) refl kept_4 refl) refl (back 5 (early 5 (omega arith) refl kept_5 refl) refl (along 1 (early 1 (omega arith) refl kept_1 refl) refl stay))) in
    kept_from table_0 table_1 weight_of kept by false true true true removed_0 kept_1 kept_4 kept_5

abbrev pub fifty : List ℕ
fifty = 50 ∷ 0 ∷ 0 ∷ 0 ∷ []

-- word 0 with bits 1, 4 and 5 set
pub fifty_packed : Packed kept_of fifty
unfolding all_below alike
fifty_packed = packed_told kept_of fifty refl refl refl

-- the links that a bounded solve keeps
pub kept_by : (weight : ℕ → ℤ) (kept : ℕ → Bool) → Bounded points pair weight kept → kept ≡ kept_of
kept_by weight kept b = kept_are kept (subst (λ (w : ℕ → ℤ). Bounded points pair w kept) (weights_are weight kept b) b)

pub pair_kept : PairKept
pair_kept weight words four small b =
    packed_once kept_of words fifty (record { four = four; small = small; bits = λ n h. ap (λ (K : ℕ → Bool). K n) (kept_by weight (kept_at words) b) }) fifty_packed
