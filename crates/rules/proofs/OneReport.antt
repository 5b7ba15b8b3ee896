-- A problem has one report by a rule, and the stores one content. Assumes nothing.
use Rattle.std.proofs.Common.{◌≡◌, ℕ, ◌+◌, ◌-◌, ◌*◌, ◌/◌, ◌%◌, ◌<◌, ◌≤◌, Bool, true, false, cond, ◌&&◌, ltb, List, length, get_or, sym, refl, ap, ◌∙◌, subst, ap₂, subst₂, ⊎_elim, arith}
use Rattle.std.proofs.lemmas.Bool.{cases_lt, cases_Bool, and_parts, ltb-true}
use Rattle.std.proofs.lemmas.List.{ext_get_or}
use Rattle.scale.specs.Rules.{Rules}
use Rattle.scale.specs.Laws.{Plain}
use Rattle.theory.specs.Joins.{when, count_below}
use Rattle.theory.specs.Problem.{Problem, Plan, Sound, variables, functions, size, position, score}
use Rattle.theory.specs.Sizes.{Fits}
use Rattle.theory.specs.Graphs.{outside, set_weight}
use Rattle.theory.specs.Kept.{kept_at}
use Rattle.theory.specs.KeptBy.{Rule}
use Rattle.theory.specs.Links.{graph}
use Rattle.theory.specs.Forest.{above}
use Rattle.theory.specs.Messages.{tree_value}
use Rattle.rules.specs.Figures.{Figures, Stores, Packed, planned, share_of}
use Rattle.rules.specs.Report.{Solved}
use Rattle.rules.proofs.Bits.{packed_once}
use Rattle.rules.proofs.Weights.{weights_once, kept_once}
use Rattle.rules.proofs.Same.{Found, above_same, q_same, r_same, tree_same, position_same, plan_same}

module _ {E : Type 0} (R : Rules E) (L : Plain R) (P : Problem) where
  -- A solve, over given weights and kept links.
  record Full (weight : ℕ → E) (kept : ℕ → Bool) (figures : Figures E) (stores : Stores E) : Type 0 where
    found : Found R P kept (planned figures.plan)
    plan_length : length figures.plan ≡ 64
    plan_past : (v : ℕ) → variables P ≤ v → planned figures.plan v ≡ 0
    kept_words : Packed kept figures.kept
    kept_counted : figures.kept_count ≡ count_below (kept_at figures.kept) 256
    tree_is : figures.tree ≡ tree_value R P found.hanging found.cut found.messages
    score_is : figures.score ≡ score R P (planned figures.plan)
    removed_is : figures.removed ≡ set_weight R (graph P) weight (outside kept)
    ceiling_is : figures.ceiling ≡ R.join figures.tree figures.removed
    share_is : figures.share ≡ share_of (R.shown figures.score).0 (R.shown figures.ceiling).0
    value_cells : length stores.values ≡ 2304
    choice_cells : length stores.choices ≡ 1024
    variable_rows : (v x : ℕ) → v < 64 → x < 16 → get_or stores.values (16 * v + x) R.neutral ≡ when R (ltb v (variables P) && ltb x (size P v)) (found.messages.q v x)
    function_rows : (f x : ℕ) → f < 64 → x < 16 → get_or stores.values (16 * (64 + f) + x) R.neutral ≡ when R (ltb f (functions P) && ltb x (size P (above P found.hanging f))) (found.messages.r f x)
    weight_rows : (n : ℕ) → n < 256 → get_or stores.values (16 * 128 + n) R.neutral ≡ weight n
    choice_rows : (f x : ℕ) → f < 64 → x < 16 → get_or stores.choices (16 * f + x) 0 ≡ cond (ltb f (functions P) && ltb x (size P (above P found.hanging f))) (position P f (found.takes f x)) 0

  full : {rule : Rule} {figures : Figures E} {stores : Stores E} (s : Solved R P rule figures stores) → Full s.working.weight s.working.kept figures stores
  full s =
      let w = s.working in
      let r = s.reports in
      let t = s.stored in record {
        found = record { cut = w.cut; is_cut = w.is_cut; hanging = w.hanging; hung = w.hung; lowest_roots = w.lowest_roots; messages = w.messages; takes = w.takes; taken = w.taken; chosen = r.plan_chosen };
        plan_length = r.plan_length;
        plan_past = r.plan_past;
        kept_words = r.kept_words;
        kept_counted = r.kept_counted;
        tree_is = r.tree_is;
        score_is = r.score_is;
        removed_is = r.removed_is;
        ceiling_is = r.ceiling_is;
        share_is = r.share_is;
        value_cells = t.value_cells;
        choice_cells = t.choice_cells;
        variable_rows = t.variable_rows;
        function_rows = t.function_rows;
        weight_rows = t.weight_rows;
        choice_rows = t.choice_rows;
      }

  -- two values under one test that passes only where they are equal
  when_same : (b : Bool) (x x' : E) → (b ≡ true → x ≡ x') → when R b x ≡ when R b x'
  when_same true x x' e = e refl
  when_same false x x' e = refl

  cond_same : (b : Bool) (x x' : ℕ) → (b ≡ true → x ≡ x') → cond b x 0 ≡ cond b x' 0
  cond_same true x x' e = e refl
  cond_same false x x' e = refl

  module _ (sound : Sound P) {weight : ℕ → E} {kept : ℕ → Bool} {figures figures' : Figures E} {stores stores' : Stores E}
      (a : Full weight kept figures stores) (b : Full weight kept figures' stores') where
    abbrev y : Plan
    y = planned figures.plan

    abbrev y' : Plan
    y' = planned figures'.plan

    abbrev A : Found R P kept y
    A = a.found

    abbrev B : Found R P kept y'
    B = b.found

    plans : figures.plan ≡ figures'.plan
    plans = ext_get_or 0 figures.plan figures'.plan (a.plan_length ∙ sym b.plan_length) (λ v k. ⊎_elim
        (λ (known : v < variables P). plan_same R L P sound kept y y' A B v known)
        (λ (past : variables P ≤ v). a.plan_past v past ∙ sym (b.plan_past v past))
        (cases_lt v (variables P)))

    trees : figures.tree ≡ figures'.tree
    trees = a.tree_is ∙ tree_same R L P sound kept y y' A B ∙ sym b.tree_is

    scores : figures.score ≡ figures'.score
    scores = a.score_is ∙ ap (λ (l : List ℕ). score R P (planned l)) plans ∙ sym b.score_is

    removals : figures.removed ≡ figures'.removed
    removals = a.removed_is ∙ sym b.removed_is

    ceilings : figures.ceiling ≡ figures'.ceiling
    ceilings = a.ceiling_is ∙ ap₂ R.join trees removals ∙ sym b.ceiling_is

    shares : figures.share ≡ figures'.share
    shares = a.share_is ∙ ap₂ (λ (s c : E). share_of (R.shown s).0 (R.shown c).0) scores ceilings ∙ sym b.share_is

    words : figures.kept ≡ figures'.kept
    words = packed_once kept figures.kept figures'.kept a.kept_words b.kept_words

    figures_same : figures ≡ figures'
    figures_same = λ i. record {
      plan = plans i;
      kept = words i;
      kept_count = (a.kept_counted ∙ ap (λ (l : List ℕ). count_below (kept_at l) 256) words ∙ sym b.kept_counted) i;
      tree = trees i;
      score = scores i;
      removed = removals i;
      ceiling = ceilings i;
      share = shares i;
    }

    abbrev in_row : ℕ → ℕ → Bool
    in_row f x = ltb f (functions P) && ltb x (size P (above P A.hanging f))

    -- a cell of a function's row has a meaning in both stores or in none
    row_same : (f x : ℕ) → in_row f x ≡ (ltb f (functions P) && ltb x (size P (above P B.hanging f)))
    row_same f x = ⊎_elim
        (λ e. ap (λ (u : ℕ). ltb f (functions P) && ltb x (size P u)) (above_same R L P sound kept y y' A B f (ltb-true f (functions P) e)))
        (λ e. ap (λ (t : Bool). t && ltb x (size P (above P A.hanging f))) e ∙ sym (ap (λ (t : Bool). t && ltb x (size P (above P B.hanging f))) e))
        (cases_Bool (ltb f (functions P)))

    module _ (f x : ℕ) (e : in_row f x ≡ true) where
      abbrev known : f < functions P
      known = ltb-true f (functions P) (and_parts (ltb f (functions P)) (ltb x (size P (above P A.hanging f))) e).0

      abbrev fits : x < size P (above P A.hanging f)
      fits = ltb-true x (size P (above P A.hanging f)) (and_parts (ltb f (functions P)) (ltb x (size P (above P A.hanging f))) e).1

    variable_cell : (v x : ℕ) → v < 64 → x < 16 → get_or stores.values (16 * v + x) R.neutral ≡ get_or stores'.values (16 * v + x) R.neutral
    variable_cell v x k h =
        a.variable_rows v x k h
        ∙ when_same (ltb v (variables P) && ltb x (size P v)) _ _ (λ e.
        let both = and_parts (ltb v (variables P)) (ltb x (size P v)) e in
        q_same R L P sound kept y y' A B v x (ltb-true v (variables P) both.0) (ltb-true x (size P v) both.1))
        ∙ sym (b.variable_rows v x k h)

    function_cell : (f x : ℕ) → f < 64 → x < 16 → get_or stores.values (16 * (64 + f) + x) R.neutral ≡ get_or stores'.values (16 * (64 + f) + x) R.neutral
    function_cell f x k h =
        a.function_rows f x k h
        ∙ when_same (in_row f x) _ _ (λ e. r_same R L P sound kept y y' A B f x (known f x e) (fits f x e))
        ∙ ap (λ (t : Bool). when R t (B.messages.r f x)) (row_same f x)
        ∙ sym (b.function_rows f x k h)

    choice_cell : (f x : ℕ) → f < 64 → x < 16 → get_or stores.choices (16 * f + x) 0 ≡ get_or stores'.choices (16 * f + x) 0
    choice_cell f x k h =
        a.choice_rows f x k h
        ∙ cond_same (in_row f x) _ _ (λ e. position_same R L P sound kept y y' A B f x (known f x e) (fits f x e))
        ∙ ap (λ (t : Bool). cond t (position P f (B.takes f x)) 0) (row_same f x)
        ∙ sym (b.choice_rows f x k h)

    values_same : stores.values ≡ stores'.values
    values_same = ext_get_or R.neutral stores.values stores'.values (a.value_cells ∙ sym b.value_cells) (λ i k.
        let all = a.value_cells in ⊎_elim
        (λ (low : i < 1024).
        let at : 16 * (i / 16) + i % 16 ≡ i = omega arith in
        subst (λ (n : ℕ). get_or stores.values n R.neutral ≡ get_or stores'.values n R.neutral) at (variable_cell (i / 16) (i % 16) (omega arith) (omega arith)))
        (λ (high : 1024 ≤ i). ⊎_elim
        (λ (mid : i < 2048).
        let at : 16 * (64 + (i / 16 - 64)) + i % 16 ≡ i = omega arith in
        subst (λ (n : ℕ). get_or stores.values n R.neutral ≡ get_or stores'.values n R.neutral) at (function_cell (i / 16 - 64) (i % 16) (omega arith) (omega arith)))
        (λ (top : 2048 ≤ i).
        let at : 16 * 128 + (i - 2048) ≡ i = omega arith in
        subst (λ (n : ℕ). get_or stores.values n R.neutral ≡ get_or stores'.values n R.neutral) at (a.weight_rows (i - 2048) (omega arith) ∙ sym (b.weight_rows (i - 2048) (omega arith))))
        (cases_lt i 2048))
        (cases_lt i 1024))

    choices_same : stores.choices ≡ stores'.choices
    choices_same = ext_get_or 0 stores.choices stores'.choices (a.choice_cells ∙ sym b.choice_cells) (λ i k.
        let all = a.choice_cells in
        let at : 16 * (i / 16) + i % 16 ≡ i = omega arith in
        subst (λ (n : ℕ). get_or stores.choices n 0 ≡ get_or stores'.choices n 0) at (choice_cell (i / 16) (i % 16) (omega arith) (omega arith)))

    once : (figures ≡ figures') × (stores ≡ stores')
    once = (figures_same, λ i. record { values = values_same i; choices = choices_same i })

  pub one_report_lem : Fits P → (rule : Rule) (figures figures' : Figures E) (stores stores' : Stores E) →
      Solved R P rule figures stores → Solved R P rule figures' stores' → (figures ≡ figures') × (stores ≡ stores')
  one_report_lem fits rule figures figures' stores stores' s s' =
      let w = s.working in
      let w' = s'.working in
      let weights = weights_once R L P fits.sound rule w.weight w'.weight w.kept w'.kept w.by_rule w'.by_rule in
      let kept = kept_once R L P fits.sound rule w.weight w'.weight w.kept w'.kept w.by_rule w'.by_rule in
      once fits.sound (full s) (subst₂ (λ (v : ℕ → E) (k : ℕ → Bool). Full v k figures' stores') (sym weights) (sym kept) (full s'))
