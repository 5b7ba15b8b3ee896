-- The ties of one function worked through: the value that its root takes, and the entry that it takes. Assumes nothing.
use Rattle.std.proofs.Common.{int_le, ◌≡◌, ℕ, zero, suc, ◌+◌, ◌*◌, ◌<◌, ◌≤◌, Bool, true, false, cond, ◌&&◌, eqb, List, [], ◌∷◌, length, get_or, replicate, ℤ, pos, ◌+ℤ◌, Some, None, Option, sym, refl, ap, ◌∙◌, subst, ap₂, arith}
use Rattle.std.proofs.lemmas.Bool.{false≢true, both_ways, and_parts}
use Rattle.scale.specs.Points.{points}
use Rattle.scale.specs.Whole.{whole_laws}
use Rattle.theory.specs.Joins.{joins, when}
use Rattle.theory.specs.Problem.{Problem, Plan, Valid, Sound, size, at, scope_of, position, entry, score}
use Rattle.theory.specs.Graphs.{Uses, Joined, stay, along, back}
use Rattle.theory.specs.Keeping.{before}
use Rattle.theory.specs.Links.{link, graph}
use Rattle.theory.specs.Forest.{Hanging, above, hangs, is_root}
use Rattle.theory.specs.Messages.{Messages, from_variables}
use Rattle.theory.proofs.Hangs.{root_from, root_test}
use Rattle.theory.proofs.Orders.{before_order}
use Rattle.theory.specs.KeptBy.{Rule, straight, bounded, KeptBy}
use Rattle.rules.specs.Figures.{planned}
use Rattle.rules.specs.Report.{Working, Reaches}
use Rattle.worked.specs.Table.{TieReport}
use Rattle.worked.specs.Ties.{TakesFirst}
use Rattle.worked.proofs.TwoByTwo.{one, two}
use Rattle.worked.proofs.PlanLists.{plan_is}
use Rattle.worked.proofs.Pair.{told}
use Rattle.worked.proofs.PairKept.{same_side}
use Rattle.rules.proofs.Picked.{plan_valid, plan_picked}

-- one function of two variables of size 2, with the given words
abbrev of_both : List ℕ → Problem
of_both words = record { domains = 2 ∷ 2 ∷ []; tables = record { scope = 0 ∷ 1 ∷ []; words = words } ∷ [] }

-- the plan of a for variable 0, and of b for all others
unfoldable pub both : ℕ → ℕ → Plan
both a b v = cond (eqb v 0) a b

four : (Q : ℕ → Type 0) → Q 0 → Q 1 → Q 2 → Q 3 → (n : ℕ) → n < 4 → Q n
four Q a b c d zero k = a
four Q a b c d (suc zero) k = b
four Q a b c d (suc (suc zero)) k = c
four Q a b c d (suc (suc (suc zero))) k = d
four Q a b c d (suc (suc (suc (suc n)))) k = absurd (omega arith)

module _ (words : List ℕ) where
  abbrev P : Problem
  P = of_both words

  sound : length words ≡ 4 → Sound P
  unfolding size at scope_of
  sound many = record {
    nonempty = two (λ v. 1 ≤ size P v) (omega arith) (omega arith);
    some_place = one (λ f. 1 ≤ length (scope_of P f)) (omega arith);
    four_places = one (λ f. length (scope_of P f) ≤ 4) (omega arith);
    known = λ f p k h. one (λ f. (p : ℕ) → p < length (scope_of P f) → at P f p < 2) (two (λ p. at P 0 p < 2) (omega arith) (omega arith)) f k p h;
    distinct = λ f p q k h i e. one (λ f. (p : ℕ) → p < length (scope_of P f) → (q : ℕ) → q < length (scope_of P f) → at P f p ≡ at P f q → p ≡ q)
        (two (λ p. (q : ℕ) → q < 2 → at P 0 p ≡ at P 0 q → p ≡ q) (two (λ q. 0 ≡ at P 0 q → 0 ≡ q) (λ d. d) (λ d. d)) (two (λ q. 1 ≡ at P 0 q → 1 ≡ q) (λ d. d) (λ d. d)))
        f k p h q i e;
    full = one _ many;
  }

  entry_at : (y : Plan) (a b : ℕ) → y 0 ≡ a → y 1 ≡ b → entry points P 0 y ≡ told words a b
  unfolding size scope_of position entry
  entry_at y a b d e = ap₂ (told words) d e

  values : (y : Plan) → Valid P y → (y 0 < 2) × (y 1 < 2)
  unfolding size
  values y valid = (valid 0 (omega arith), valid 1 (omega arith))

  both_valid : (a b : ℕ) → a < 2 → b < 2 → Valid P (both a b)
  unfolding both size
  both_valid a b h k = two (λ v. both a b v < size P v) h k

  -- both links are kept
  both_kept : (rule : Rule) (w : ℕ → ℤ) (k : ℕ → Bool) → KeptBy points P w k rule → (k 0 ≡ true) × (k 1 ≡ true)
  unfolding at scope_of
  both_kept straight w k s = (s.all_kept 0, s.all_kept 1)
  both_kept bounded w k b = (
    (b.keeps 0 (omega arith) refl).1 (λ j. false≢true (sym (same_side (λ a. eqb a 0) (λ m u. four (λ m. Uses (graph P) (earlier 0) m → eqb ((graph P).left m) 0 ≡ eqb ((graph P).right m) 0) (λ u. itself 0 u) (λ u. refl) (λ u. absurd (false≢true u.there)) (λ u. absurd (false≢true u.there)) m u.below u) j))),
    (b.keeps 1 (omega arith) refl).1 (λ j. false≢true (sym (same_side (λ a. eqb a 1) (λ m u. four (λ m. Uses (graph P) (earlier 1) m → eqb ((graph P).left m) 1 ≡ eqb ((graph P).right m) 1) (λ u. refl) (λ u. itself 1 u) (λ u. absurd (false≢true u.there)) (λ u. absurd (false≢true u.there)) m u.below u) j))),
  )
    where
      earlier : ℕ → ℕ → Bool
      earlier n m = k m && before int_le w m n

      itself : {A : Type 0} (n : ℕ) → Uses (graph P) (earlier n) n → A
      itself n u = absurd ((before_order whole_laws w).apart n n (and_parts (k n) (before int_le w n n) u.chosen).1 refl)

  module _ (rule : Rule) (w : Working points P rule) where
    abbrev H : Hanging
    H = w.hanging

    abbrev m : Messages points P H w.cut
    m = w.messages

    kept : (w.kept 0 ≡ true) × (w.kept 1 ≡ true)
    kept = both_kept rule w.weight w.kept w.by_rule

    root_0 : is_root H 0 ≡ true
    root_0 = (w.lowest_roots 0 (omega arith)).1 (λ u h j. omega arith)

    up : Joined (graph P) w.kept 1 0
    unfolding at scope_of
    up = along 1 (record { below = omega arith; there = refl; chosen = kept.1 }) refl (back 0 (record { below = omega arith; there = refl; chosen = kept.0 }) refl stay)

    parent_1 : H.var_parent 1 ≡ Some 0
    parent_1 = go (H.var_parent 1) refl
      where
        go : (o : Option ℕ) → H.var_parent 1 ≡ o → H.var_parent 1 ≡ Some 0
        go None e = absurd ((w.lowest_roots 1 (omega arith)).0 (root_test (H.var_parent 1) e) 0 (omega arith) up)
        go (Some f) e = let k = w.hung.var_known 1 f (omega arith) e in let z : f ≡ 0 = omega arith in e ∙ ap Some z

    above_0 : above P H 0 ≡ 0
    unfolding at scope_of
    above_0 = go (H.fun_parent 0) refl (w.hung.fun_place 0 (omega arith))
      where
        go : (p : ℕ) → H.fun_parent 0 ≡ p → H.fun_parent 0 < 2 → above P H 0 ≡ 0
        go zero e h = ap (at P 0) e
        go (suc zero) e h =
            let here : above P H 0 ≡ 1 = ap (at P 0) e in
            let down = w.hung.var_falls 1 0 (omega arith) parent_1 in
            let rise = w.hung.fun_falls 0 (omega arith) in
            let ranks = ap w.hung.var_rank here in
            absurd (omega arith)
        go (suc (suc p)) e h = absurd (omega arith)

    q_1 : (x : ℕ) → x < 2 → m.q 1 x ≡ pos 0
    unfolding joins size
    q_1 x h = m.variable 1 x (omega arith) h ∙ ap (λ (a : ℕ). pos 0 +ℤ when points (eqb a 1) (m.r 0 x)) above_0

    -- the function gives its entry, since nothing comes up to it
    value : (y : Plan) → Valid P y → points.join (w.cut 0 y) (from_variables points P H m.q 0 y) ≡ told words (y 0) (y 1)
    unfolding joins scope_of at
    value y valid =
        let (z, ok, is) = (w.is_cut 0 y (omega arith) valid).attained in
        let same : entry points P 0 z ≡ told words (y 0) (y 1) = entry_at z (y 0) (y 1) (ok.1 0 (omega arith) kept.0) (ok.1 1 (omega arith) kept.1) in
        let none : from_variables points P H m.q 0 y ≡ pos 0 =
        ap₂ (λ (o o' : Option ℕ). (pos 0 +ℤ when points (hangs o 0) (m.q 0 (y 0))) +ℤ when points (hangs o' 0) (m.q 1 (y 1))) (root_from (H.var_parent 0) root_0) parent_1
        ∙ ap (λ (t : ℤ). pos 0 +ℤ t) (q_1 (y 1) (values y valid).1) in
        ap₂ ◌+ℤ◌ (sym is ∙ same) none ∙ whole_laws.unit (told words (y 0) (y 1))

    module _ (x b : ℕ) (h : x < 2) (k : b < 2) (most : (c : ℕ) → c < 2 → int_le (told words x c) (told words x b) ≡ true) where
      -- its message at x is the highest that it gives there
      r_0 : m.r 0 x ≡ told words x b
      unfolding both size
      r_0 =
          let top = m.function 0 x (omega arith) (subst (λ (v : ℕ). x < size P v) (sym above_0) h) in
          let (z, ok, is) = top.attained in
          let here : told words (z 0) (z 1) ≡ told words x (z 1) = ap (λ (a : ℕ). told words a (z 1)) (sym (ap z above_0) ∙ ok.1) in
          whole_laws.antisym (m.r 0 x) (told words x b)
          (subst (λ (t : ℤ). int_le t (told words x b) ≡ true) (sym here ∙ sym (value z ok.0) ∙ is) (most (z 1) (values z ok.0).1))
          (subst (λ (t : ℤ). int_le t (m.r 0 x) ≡ true) (value (both x b) (both_valid x b h k)) (top.bound (both x b) (both_valid x b h k, ap (both x b) above_0)))

      q_0 : m.q 0 x ≡ told words x b
      unfolding joins size
      q_0 =
          m.variable 0 x (omega arith) h ∙ ap₂ (λ (a : ℕ) (t : ℤ). pos 0 +ℤ when points (eqb a 0) t) above_0 r_0
          ∙ whole_laws.comm (pos 0) (told words x b) ∙ whole_laws.unit (told words x b)

      -- and what it takes at x does not stand behind it
      taken : w.takes 0 x 1 ≤ b
      unfolding both size position scope_of at
      taken =
          let t = w.taken 0 x (omega arith) (subst (λ (v : ℕ). x < size P v) (sym above_0) h) in
          let y = both x b in
          let valid = both_valid x b h k in
          let reaches : Reaches points P w.kept H w.cut m 0 x y = record {
            valid = valid;
            here = ap y above_0;
            zeros = two (λ p. w.kept (link 0 p) ≡ false → y (at P 0 p) ≡ 0) (λ e. absurd (both_ways (w.kept 0) e kept.0)) (λ e. absurd (both_ways (w.kept 1) e kept.1));
            reached = value y valid ∙ sym r_0;
          } in
          let first : w.takes 0 x 0 * 2 + (w.takes 0 x 1 * 1 + 0) ≤ x * 2 + (b * 1 + 0) = t.first y reaches in
          let here : w.takes 0 x 0 ≡ x = sym (ap (w.takes 0 x) above_0) ∙ t.reaches.here in
          omega arith

-- The tie between the values of the root: each has one partner that gives 5.
abbrev partners : List ℕ
partners = 0 ∷ 5 ∷ 5 ∷ 0 ∷ []

at_most_five : (a b : ℕ) → a < 2 → b < 2 → int_le (told partners a b) (pos 5) ≡ true
at_most_five a b h k = two (λ a. int_le (told partners a b) (pos 5) ≡ true) (two (λ b. int_le (told partners 0 b) (pos 5) ≡ true) refl refl b k) (two (λ b. int_le (told partners 1 b) (pos 5) ≡ true) refl refl b k) a h

-- with 0 for variable 0, only 1 gives 5
partner_of_0 : (b : ℕ) → b < 2 → told partners 0 b ≡ pos 5 → b ≡ 1
partner_of_0 b h = two (λ b. told partners 0 b ≡ pos 5 → b ≡ 1) (λ e. absurd (false≢true (sym (ap (λ t. int_le t (pos 0)) e)))) (λ e. refl) b h

score_partners : score points (of_both partners) (planned (0 ∷ 1 ∷ replicate 62 0)) ≡ pos 5
unfolding joins size scope_of position entry
score_partners = refl

pub tie_report : TieReport
unfolding size
tie_report rule figures stores solved =
    let w = solved.working in
    let r = solved.reports in
    let y = planned figures.plan in
    let m = w.messages in
    let all = sound partners refl in
    let fits = values partners y (plan_valid points whole_laws (of_both partners) all w y r.plan_chosen) in
    let q : (x : ℕ) → x < 2 → m.q 0 x ≡ pos 5 = two (λ x. m.q 0 x ≡ pos 5)
    (q_0 partners rule w 0 1 (omega arith) (omega arith) (λ c k. at_most_five 0 c (omega arith) k))
    (q_0 partners rule w 1 0 (omega arith) (omega arith) (λ c k. at_most_five 1 c (omega arith) k)) in
    let best : m.best 0 ≡ pos 5 = sym (r.plan_chosen.highest 0 (omega arith) (root_0 partners rule w)) ∙ q (y 0) fits.0 in
    let low = r.plan_chosen.lowest 0 0 (omega arith) (root_0 partners rule w) (omega arith) (q 0 (omega arith) ∙ sym best) in
    let first : y 0 ≡ 0 = omega arith in
    let picked = plan_picked points whole_laws (of_both partners) all w y r.plan_chosen in
    let five : told partners 0 (y 1) ≡ pos 5 =
    ap (λ (a : ℕ). told partners a (y 1)) (sym first) ∙ sym (value partners rule w y picked.valid) ∙ picked.reached 0 (omega arith) ∙ ap (m.r 0) (ap y (above_0 partners rule w) ∙ first)
    ∙ r_0 partners rule w 0 1 (omega arith) (omega arith) (λ c k. at_most_five 0 c (omega arith) k) in
    let plan : figures.plan ≡ 0 ∷ 1 ∷ replicate 62 0 = plan_is figures.plan (0 ∷ 1 ∷ []) 62 r.plan_length (two (λ v. y v ≡ get_or (0 ∷ 1 ∷ []) v 0) first (partner_of_0 (y 1) fits.1 five)) r.plan_past in
    record { plan = plan; score = r.score_is ∙ ap (λ (l : List ℕ). score points (of_both partners) (planned l)) plan ∙ score_partners }

-- The tie between the entries of the function: both partners of 0 give 5.
abbrev rows : List ℕ
rows = 5 ∷ 5 ∷ 0 ∷ 0 ∷ []

row_0 : (c : ℕ) → c < 2 → int_le (told rows 0 c) (pos 5) ≡ true
row_0 c k = two (λ c. int_le (told rows 0 c) (pos 5) ≡ true) refl refl c k

row_1 : (c : ℕ) → c < 2 → int_le (told rows 1 c) (pos 0) ≡ true
row_1 c k = two (λ c. int_le (told rows 1 c) (pos 0) ≡ true) refl refl c k

score_rows : score points (of_both rows) (planned (0 ∷ 0 ∷ replicate 62 0)) ≡ pos 5
unfolding joins size scope_of position entry
score_rows = refl

pub takes_first : TakesFirst
unfolding size
takes_first rule figures stores solved =
    let w = solved.working in
    let r = solved.reports in
    let y = planned figures.plan in
    let m = w.messages in
    let fits = values rows y (plan_valid points whole_laws (of_both rows) (sound rows refl) w y r.plan_chosen) in
    let root = root_0 rows rule w in
    let high : int_le (m.q 0 0) (m.q 0 (y 0)) ≡ true = subst (λ (t : ℤ). int_le (m.q 0 0) t ≡ true) (sym (r.plan_chosen.highest 0 (omega arith) root)) ((m.root 0 (omega arith) root).bound 0 (omega arith)) in
    let first : y 0 ≡ 0 = two (λ x. int_le (m.q 0 0) (m.q 0 x) ≡ true → x ≡ 0) (λ e. refl)
    (λ e. absurd (false≢true (ap₂ int_le (sym (q_0 rows rule w 0 0 (omega arith) (omega arith) row_0)) (sym (q_0 rows rule w 1 0 (omega arith) (omega arith) row_1)) ∙ e)))
    (y 0) fits.0 high in
    let takes = taken rows rule w 0 0 (omega arith) (omega arith) row_0 in
    let below : y 1 ≡ w.takes 0 0 1 = r.plan_chosen.below 1 0 (omega arith) (parent_1 rows rule w) ∙ ap (λ (x : ℕ). w.takes 0 x 1) (ap y (above_0 rows rule w) ∙ first) in
    let second : y 1 ≡ 0 = omega arith in
    let plan : figures.plan ≡ 0 ∷ 0 ∷ replicate 62 0 = plan_is figures.plan (0 ∷ 0 ∷ []) 62 r.plan_length (two (λ v. y v ≡ get_or (0 ∷ 0 ∷ []) v 0) first second) r.plan_past in
    record { plan = plan; score = r.score_is ∙ ap (λ (l : List ℕ). score points (of_both rows) (planned l)) plan ∙ score_rows }
