-- What the stores of the pair hold. Assumes nothing.
use Rattle.std.proofs.Common.{int_le, ◌≡◌, ℕ, ◌+◌, ◌*◌, ◌<◌, Bool, true, cond, eqb, ltb, get_or, ℤ, pos, ◌+ℤ◌, Some, None, Option, sym, refl, ap, ◌∙◌, subst, ap₂, arith}
use Rattle.std.proofs.lemmas.Bool.{false≢true, both_ways}
use Rattle.scale.specs.Points.{points}
use Rattle.scale.specs.Whole.{whole_laws}
use Rattle.theory.specs.Joins.{joins, when}
use Rattle.theory.specs.Problem.{Plan, Valid, size, at, scope_of, position, entry}
use Rattle.theory.specs.Graphs.{Joined, stay, along, back}
use Rattle.theory.specs.Links.{link, graph}
use Rattle.theory.specs.KeptBy.{bounded}
use Rattle.theory.specs.Forest.{Hanging, above, hangs, is_root}
use Rattle.theory.specs.Messages.{Messages, from_variables}
use Rattle.theory.proofs.Hangs.{root_from, root_test}
use Rattle.rules.specs.Figures.{Stores}
use Rattle.rules.specs.Report.{Working, Stored}
use Rattle.worked.specs.Table.{pair}
use Rattle.worked.specs.Cells.{PairCells, PairStores}
use Rattle.worked.proofs.TwoByTwo.{two}
use Rattle.worked.proofs.Pair.{valid_one, told, table_0, table_1}
use Rattle.worked.proofs.Tied.{both}
use Rattle.worked.proofs.PairKept.{weight_of, kept_of, weights_are, kept_by}

both_valid : (a b : ℕ) → a < 2 → b < 2 → Valid pair (both a b)
unfolding both size
both_valid a b h k = two (λ v. both a b v < size pair v) h k

-- At a value b of variable 1 function 0 sends the lower of its entries. With that function 1 gives this at the values a and b, and its best at a.
abbrev lower : ℕ → ℤ
lower b = cond (eqb b 0) (pos 0) (pos 2)

abbrev given : ℕ → ℕ → ℤ
given a b = told table_1 a b +ℤ lower b

abbrev best : ℕ → ℤ
best a = cond (eqb a 0) (pos 3) (pos 7)

lower_least : (a b : ℕ) → a < 2 → b < 2 → int_le (lower b) (told table_0 a b) ≡ true
lower_least a b h k = two (λ a. int_le (lower b) (told table_0 a b) ≡ true) (two (λ b. int_le (lower b) (told table_0 0 b) ≡ true) refl refl b k) (two (λ b. int_le (lower b) (told table_0 1 b) ≡ true) refl refl b k) a h

lower_met : (b : ℕ) → b < 2 → told table_0 b b ≡ lower b
lower_met = two (λ b. told table_0 b b ≡ lower b) refl refl

best_most : (a b : ℕ) → a < 2 → b < 2 → int_le (given a b) (best a) ≡ true
best_most a b h k = two (λ a. int_le (given a b) (best a) ≡ true) (two (λ b. int_le (given 0 b) (best 0) ≡ true) refl refl b k) (two (λ b. int_le (given 1 b) (best 1) ≡ true) refl refl b k) a h

best_met : (a : ℕ) → a < 2 → given a a ≡ best a
best_met = two (λ a. given a a ≡ best a) refl refl

-- with the same value for variable 1, and with no other
best_only : (a b : ℕ) → a < 2 → b < 2 → int_le (best a) (given a b) ≡ true → b ≡ a
best_only a b h k = two (λ a. int_le (best a) (given a b) ≡ true → b ≡ a)
    (two (λ b. int_le (best 0) (given 0 b) ≡ true → b ≡ 0) (λ e. refl) (λ e. absurd (false≢true e)) b k)
    (two (λ b. int_le (best 1) (given 1 b) ≡ true → b ≡ 1) (λ e. absurd (false≢true e)) (λ e. refl) b k) a h

module _ (w : Working points pair bounded) where
  abbrev H : Hanging
  H = w.hanging

  abbrev m : Messages points pair H w.cut
  m = w.messages

  kept : (n : ℕ) → w.kept n ≡ kept_of n
  kept n = ap (λ (K : ℕ → Bool). K n) (kept_by w.weight w.kept w.by_rule)

  root_0 : is_root H 0 ≡ true
  root_0 = (w.lowest_roots 0 (omega arith)).1 (λ u h j. omega arith)

  up : Joined (graph pair) w.kept 1 0
  unfolding at scope_of
  up = along 5 (record { below = omega arith; there = refl; chosen = kept 5 }) refl (back 4 (record { below = omega arith; there = refl; chosen = kept 4 }) refl stay)

  -- function 0 hangs by its kept link
  above_0 : above pair H 0 ≡ 1
  unfolding at scope_of
  above_0 = two (λ p. w.kept (link 0 p) ≡ true → at pair 0 p ≡ 1) (λ e. absurd (both_ways (w.kept 0) (kept 0) e)) (λ e. refl) (H.fun_parent 0) (w.hung.fun_place 0 (omega arith)) (w.hung.fun_kept 0 (omega arith))

  -- a node does not hang from one that hangs from it
  no_round : (f : ℕ) → f < 2 → H.var_parent 1 ≡ Some f → above pair H f ≡ 1 → ⊥
  no_round f k e here =
      let down = w.hung.var_falls 1 f (omega arith) e in
      let rise = w.hung.fun_falls f k in
      let ranks = ap w.hung.var_rank here in
      omega arith

  parent_1 : H.var_parent 1 ≡ Some 1
  parent_1 = go (H.var_parent 1) refl
    where
      go : (o : Option ℕ) → H.var_parent 1 ≡ o → H.var_parent 1 ≡ Some 1
      go None e = absurd ((w.lowest_roots 1 (omega arith)).0 (root_test (H.var_parent 1) e) 0 (omega arith) up)
      go (Some f) e = e ∙ ap Some (two (λ f. H.var_parent 1 ≡ Some f → f ≡ 1) (λ d. absurd (no_round 0 (omega arith) d above_0)) (λ d. refl) f (w.hung.var_known 1 f (omega arith) e) e)

  above_1 : above pair H 1 ≡ 0
  unfolding at scope_of
  above_1 = two (λ p. H.fun_parent 1 ≡ p → at pair 1 p ≡ 0) (λ e. refl) (λ e. absurd (no_round 1 (omega arith) parent_1 (ap (at pair 1) e))) (H.fun_parent 1) (w.hung.fun_place 1 (omega arith)) refl

  cut_0 : (y : Plan) → Valid pair y → w.cut 0 y ≡ lower (y 1)
  unfolding both size at scope_of position entry
  cut_0 y valid =
      let b = (valid_one y valid).1 in
      let low = w.is_cut 0 y (omega arith) valid in
      let (z, ok, is) = low.attained in
      whole_laws.antisym (w.cut 0 y) (lower (y 1))
      (subst (λ (t : ℤ). int_le (w.cut 0 y) t ≡ true) (lower_met (y 1) b) (low.bound (both (y 1) (y 1)) (both_valid (y 1) (y 1) b b, two (λ p. w.kept (link 0 p) ≡ true → both (y 1) (y 1) (at pair 0 p) ≡ y (at pair 0 p)) (λ e. absurd (both_ways (w.kept 0) (kept 0) e)) (λ e. refl))))
      (subst (λ (t : ℤ). int_le (lower (y 1)) t ≡ true) (ap (told table_0 (z 0)) (sym (ok.1 1 (omega arith) (kept 1))) ∙ is) (lower_least (z 0) (y 1) (valid_one z ok.0).0 b))

  cut_1 : (y : Plan) → Valid pair y → w.cut 1 y ≡ told table_1 (y 0) (y 1)
  unfolding size at scope_of position entry
  cut_1 y valid =
      let (z, ok, is) = (w.is_cut 1 y (omega arith) valid).attained in
      sym is ∙ ap₂ (told table_1) (ok.1 0 (omega arith) (kept 4)) (ok.1 1 (omega arith) (kept 5))

  -- what comes up to a function
  from_below : (f : ℕ) (y : Plan) → from_variables points pair H m.q f y ≡ (pos 0 +ℤ pos 0) +ℤ when points (eqb 1 f) (m.q 1 (y 1))
  unfolding joins
  from_below f y = ap₂ (λ (o o' : Option ℕ). (pos 0 +ℤ when points (hangs o f) (m.q 0 (y 0))) +ℤ when points (hangs o' f) (m.q 1 (y 1))) (root_from (H.var_parent 0) root_0) parent_1

  r_0 : (x : ℕ) → x < 2 → m.r 0 x ≡ lower x
  unfolding size
  r_0 x h =
      let (z, ok, is) = (m.function 0 x (omega arith) (subst (λ (v : ℕ). x < size pair v) (sym above_0) h)).attained in
      sym is ∙ ap₂ ◌+ℤ◌ (cut_0 z ok.0) (from_below 0 z) ∙ whole_laws.unit (lower (z 1)) ∙ ap lower (sym (ap z above_0) ∙ ok.1)

  q_1 : (x : ℕ) → x < 2 → m.q 1 x ≡ lower x
  unfolding joins size
  q_1 x h =
      m.variable 1 x (omega arith) h
      ∙ ap₂ (λ (a a' : ℕ). (pos 0 +ℤ when points (eqb a 1) (m.r 0 x)) +ℤ when points (eqb a' 1) (m.r 1 x)) above_0 above_1
      ∙ ap (λ (t : ℤ). (pos 0 +ℤ t) +ℤ pos 0) (r_0 x h) ∙ two (λ x. (pos 0 +ℤ lower x) +ℤ pos 0 ≡ lower x) refl refl x h

  value_1 : (y : Plan) → Valid pair y → points.join (w.cut 1 y) (from_variables points pair H m.q 1 y) ≡ given (y 0) (y 1)
  value_1 y valid =
      let b = (valid_one y valid).1 in
      ap₂ ◌+ℤ◌ (cut_1 y valid) (from_below 1 y ∙ ap (λ (t : ℤ). (pos 0 +ℤ pos 0) +ℤ t) (q_1 (y 1) b) ∙ two (λ b. (pos 0 +ℤ pos 0) +ℤ lower b ≡ lower b) refl refl (y 1) b)

  r_1 : (x : ℕ) → x < 2 → m.r 1 x ≡ best x
  unfolding both size
  r_1 x h =
      let top = m.function 1 x (omega arith) (subst (λ (v : ℕ). x < size pair v) (sym above_1) h) in
      let (z, ok, is) = top.attained in
      let here : z 0 ≡ x = sym (ap z above_1) ∙ ok.1 in
      let valid = both_valid x x h h in
      whole_laws.antisym (m.r 1 x) (best x)
      (subst (λ (t : ℤ). int_le t (best x) ≡ true) (ap (λ (a : ℕ). given a (z 1)) (sym here) ∙ sym (value_1 z ok.0) ∙ is) (best_most x (z 1) h (valid_one z ok.0).1))
      (subst (λ (t : ℤ). int_le t (m.r 1 x) ≡ true) (value_1 (both x x) valid ∙ best_met x h) (top.bound (both x x) (valid, ap (both x x) above_1)))

  q_0 : (x : ℕ) → x < 2 → m.q 0 x ≡ best x
  unfolding joins size
  q_0 x h =
      m.variable 0 x (omega arith) h
      ∙ ap₂ (λ (a a' : ℕ). (pos 0 +ℤ when points (eqb a 0) (m.r 0 x)) +ℤ when points (eqb a' 0) (m.r 1 x)) above_0 above_1
      ∙ ap (λ (t : ℤ). (pos 0 +ℤ pos 0) +ℤ t) (r_1 x h) ∙ two (λ x. (pos 0 +ℤ pos 0) +ℤ best x ≡ best x) refl refl x h

  -- function 0 takes 0 at its removed place, and function 1 the value that its parent has
  takes_0 : (x : ℕ) → x < 2 → position pair 0 (w.takes 0 x) ≡ x
  unfolding size at scope_of position
  takes_0 x h =
      let t = (w.taken 0 x (omega arith) (subst (λ (v : ℕ). x < size pair v) (sym above_0) h)).reaches in
      let first : w.takes 0 x 0 ≡ 0 = t.zeros 0 (omega arith) (kept 0) in
      let second : w.takes 0 x 1 ≡ x = sym (ap (w.takes 0 x) above_0) ∙ t.here in
      ap₂ (λ (a b : ℕ). a * 2 + (b * 1 + 0)) first second ∙ omega arith

  takes_1 : (x : ℕ) → x < 2 → position pair 1 (w.takes 1 x) ≡ 3 * x
  unfolding size scope_of position
  takes_1 x h =
      let t = (w.taken 1 x (omega arith) (subst (λ (v : ℕ). x < size pair v) (sym above_1) h)).reaches in
      let first : w.takes 1 x 0 ≡ x = sym (ap (w.takes 1 x) above_1) ∙ t.here in
      let met : best x ≡ given x (w.takes 1 x 1) = sym (r_1 x h) ∙ sym t.reached ∙ value_1 (w.takes 1 x) t.valid ∙ ap (λ (a : ℕ). given a (w.takes 1 x 1)) first in
      let most : int_le (best x) (given x (w.takes 1 x 1)) ≡ true = subst (λ (t : ℤ). int_le (best x) t ≡ true) met (two (λ x. int_le (best x) (best x) ≡ true) refl refl x h) in
      let second : w.takes 1 x 1 ≡ x = best_only x (w.takes 1 x 1) h (valid_one (w.takes 1 x) t.valid).1 most in
      ap₂ (λ (a b : ℕ). a * 2 + (b * 1 + 0)) first second ∙ omega arith

  module _ (stores : Stores ℤ) (s : Stored points pair w stores) where
    abbrev weights : w.weight ≡ weight_of
    weights = weights_are w.weight w.kept w.by_rule

    -- the rows of the functions, at the values of what they hang under
    row_0 : (x : ℕ) → x < 16 → get_or stores.values (1024 + x) (pos 0) ≡ when points (ltb x 2) (m.r 0 x)
    unfolding size
    row_0 x h = s.function_rows 0 x (omega arith) h ∙ ap (λ (u : ℕ). when points (ltb x (size pair u)) (m.r 0 x)) above_0

    row_1 : (x : ℕ) → x < 16 → get_or stores.values (1040 + x) (pos 0) ≡ when points (ltb x 2) (m.r 1 x)
    unfolding size
    row_1 x h = s.function_rows 1 x (omega arith) h ∙ ap (λ (u : ℕ). when points (ltb x (size pair u)) (m.r 1 x)) above_1

    choice_0 : (x : ℕ) → x < 16 → get_or stores.choices (0 + x) 0 ≡ cond (ltb x 2) (position pair 0 (w.takes 0 x)) 0
    unfolding size
    choice_0 x h = s.choice_rows 0 x (omega arith) h ∙ ap (λ (u : ℕ). cond (ltb x (size pair u)) (position pair 0 (w.takes 0 x)) 0) above_0

    choice_1 : (x : ℕ) → x < 16 → get_or stores.choices (16 + x) 0 ≡ cond (ltb x 2) (position pair 1 (w.takes 1 x)) 0
    unfolding size
    choice_1 x h = s.choice_rows 1 x (omega arith) h ∙ ap (λ (u : ℕ). cond (ltb x (size pair u)) (position pair 1 (w.takes 1 x)) 0) above_1

    cells : PairCells stores
    unfolding size
    cells = record {
      variable_0 = (s.variable_rows 0 0 (omega arith) (omega arith) ∙ q_0 0 (omega arith), s.variable_rows 0 1 (omega arith) (omega arith) ∙ q_0 1 (omega arith));
      variable_1 = (s.variable_rows 1 0 (omega arith) (omega arith) ∙ q_1 0 (omega arith), s.variable_rows 1 1 (omega arith) (omega arith) ∙ q_1 1 (omega arith));
      no_variable = s.variable_rows 2 0 (omega arith) (omega arith);
      function_0 = (row_0 0 (omega arith) ∙ r_0 0 (omega arith), row_0 1 (omega arith) ∙ r_0 1 (omega arith));
      function_1 = (row_1 0 (omega arith) ∙ r_1 0 (omega arith), row_1 1 (omega arith) ∙ r_1 1 (omega arith));
      links_of_0 = (s.weight_rows 0 (omega arith) ∙ ap (λ (v : ℕ → ℤ). v 0) weights, s.weight_rows 1 (omega arith) ∙ ap (λ (v : ℕ → ℤ). v 1) weights);
      links_of_1 = (s.weight_rows 4 (omega arith) ∙ ap (λ (v : ℕ → ℤ). v 4) weights, s.weight_rows 5 (omega arith) ∙ ap (λ (v : ℕ → ℤ). v 5) weights);
      no_link = s.weight_rows 2 (omega arith) ∙ ap (λ (v : ℕ → ℤ). v 2) weights;
      choices_0 = (choice_0 0 (omega arith) ∙ takes_0 0 (omega arith), choice_0 1 (omega arith) ∙ takes_0 1 (omega arith));
      choices_1 = (choice_1 0 (omega arith) ∙ takes_1 0 (omega arith), choice_1 1 (omega arith) ∙ takes_1 1 (omega arith));
      no_function = s.choice_rows 2 0 (omega arith) (omega arith);
    }

pub pair_stores : PairStores
pair_stores figures stores solved = cells solved.working stores solved.stored
