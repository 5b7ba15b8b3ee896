-- A problem has a report by either rule. Assumes nothing.
use Rattle.std.proofs.Common.{◌≡◌, ℕ, ◌+◌, ◌-◌, ◌*◌, ◌/◌, ◌%◌, ◌<◌, ◌≤◌, Bool, true, cond, ◌&&◌, ltb, List, sym, refl, ap, ◌∙◌, subst, ap₂, ⊎_elim, arith}
use Rattle.std.proofs.lemmas.Bool.{cases_lt, cases_Bool, lt-ltb, le-ltb, cond-true, cond-false, both_ways}
use Rattle.std.proofs.lemmas.List.{get_or_past}
use Rattle.scale.specs.Rules.{Rules}
use Rattle.scale.specs.Laws.{Plain}
use Rattle.theory.specs.Joins.{when, count_below}
use Rattle.theory.specs.Problem.{Problem, Plan, Sound, variables, functions, size, position, score}
use Rattle.theory.specs.Sizes.{Fits}
use Rattle.theory.specs.Graphs.{Cycle, every, outside, set_weight}
use Rattle.theory.specs.Kept.{kept_at}
use Rattle.theory.specs.KeptBy.{Rule, straight, bounded, KeptBy}
use Rattle.theory.specs.Links.{graph}
use Rattle.theory.specs.Forest.{above, is_root}
use Rattle.theory.specs.Messages.{tree_value}
use Rattle.theory.proofs.TablesExist.{some_cut}
use Rattle.theory.proofs.CutTables.{cut_settled}
use Rattle.theory.proofs.MessagesExist.{some_messages}
use Rattle.theory.proofs.HangingExists.{hanging, well_hung, lowest_roots}
use Rattle.theory.proofs.Choice.{choose}
use Rattle.theory.proofs.Descent.{given, given_root, given_below}
use Rattle.theory.proofs.Hangs.{root_from}
use Rattle.rules.specs.Figures.{Figures, Stores, planned, share_of}
use Rattle.rules.specs.Report.{Takes, Chosen, Working, Reports, Stored, Solved}
use Rattle.rules.proofs.KeptExists.{some_bounded, some_straight, kept_acyclic, kept_each}
use Rattle.rules.proofs.TakesExist.{some_takes, RootTakes, some_root_takes}
use Rattle.rules.proofs.Listed.{listed, length_listed, getD_listed, some_packed}

module _ {E : Type 0} (R : Rules E) (L : Plain R) (P : Problem) (fits : Fits P) (rule : Rule) where
  abbrev sound : Sound P
  sound = fits.sound

  some_working : (weight : ℕ → E) (kept : ℕ → Bool) → KeptBy R P weight kept rule → Working R P rule
  some_working weight kept by_rule =
      let acyclic = kept_acyclic R L P sound rule weight kept by_rule in
      let each = kept_each R L P sound rule weight kept by_rule in
      let H = hanging P sound kept acyclic each in
      let hung = well_hung P sound kept acyclic each in
      let (cut, is_cut) = some_cut R P sound L kept in
      let m = some_messages R L P sound kept H hung cut (cut_settled R L P kept is_cut) in
      let (takes, taken) = choose (functions P) (λ f next. (x : ℕ) → x < size P (above P H f) → Takes R P kept H cut m f x (next x)) (λ x v. 0)
      (λ f k. choose (size P (above P H f)) (Takes R P kept H cut m f) (λ v. 0) (λ x h. some_takes R L P sound kept H hung cut is_cut m f x k h)) in record {
        weight = weight;
        kept = kept;
        by_rule = by_rule;
        cut = cut;
        is_cut = is_cut;
        hanging = H;
        hung = hung;
        lowest_roots = lowest_roots P sound kept acyclic each;
        messages = m;
        takes = takes;
        taken = λ f x k h. taken f k x h;
      }

  module _ (w : Working R P rule) where
    roots : (first : ℕ → ℕ) × ((v : ℕ) → v < variables P → is_root w.hanging v ≡ true → RootTakes R L P sound w.kept w.hanging w.hung w.cut w.is_cut w.messages v (first v))
    roots = choose (variables P) (λ v x. is_root w.hanging v ≡ true → RootTakes R L P sound w.kept w.hanging w.hung w.cut w.is_cut w.messages v x) 0 (λ v k. ⊎_elim
        (λ root. let (x, takes) = some_root_takes R L P sound w.kept w.hanging w.hung w.cut w.is_cut w.messages v k root in (x, λ e. takes))
        (λ other. (0, λ e. absurd (both_ways (is_root w.hanging v) other e)))
        (cases_Bool (is_root w.hanging v)))

    plan : Plan
    plan = given P sound w.kept w.hanging w.hung roots.0 (λ f v x. w.takes f x v)

    cells : ℕ → ℕ
    cells v = cond (ltb v (variables P)) (plan v) 0

    plan_list : List ℕ
    plan_list = listed 64 cells

    plan_here : (v : ℕ) → v < variables P → planned plan_list v ≡ plan v
    unfolding plan_list cells
    plan_here v k = let few = fits.few_variables in getD_listed 64 cells 0 v (omega arith) ∙ cond-true (ltb v (variables P)) _ _ (lt-ltb v (variables P) k)

    plan_past : (v : ℕ) → variables P ≤ v → planned plan_list v ≡ 0
    unfolding plan_list cells
    plan_past v past = ⊎_elim
        (λ (h : v < 64). getD_listed 64 cells 0 v h ∙ cond-false (ltb v (variables P)) _ _ (le-ltb v (variables P) past))
        (λ (h : 64 ≤ v). get_or_past plan_list v 0 (let n = length_listed 64 cells in omega arith))
        (cases_lt v 64)

    plan_root : (v : ℕ) → v < variables P → is_root w.hanging v ≡ true → planned plan_list v ≡ roots.0 v
    unfolding plan
    plan_root v k root = plan_here v k ∙ given_root P sound w.kept w.hanging w.hung roots.0 (λ f v x. w.takes f x v) v (root_from (w.hanging.var_parent v) root)

    plan_chosen : Chosen R P w.kept w.hanging w.cut w.messages w.takes (planned plan_list)
    unfolding plan
    plan_chosen = record {
      fits = λ v k root. subst (λ (x : ℕ). x < size P v) (sym (plan_root v k root)) (roots.1 v k root).fits;
      highest = λ v k root. ap (w.messages.q v) (plan_root v k root) ∙ (roots.1 v k root).highest;
      lowest = λ v x k root h e. subst (λ (z : ℕ). z ≤ x) (sym (plan_root v k root)) ((roots.1 v k root).lowest x h e);
      below = λ v f k e.
          let up = fits.sound.known f (w.hanging.fun_parent f) (w.hung.var_known v f k e) (w.hung.fun_place f (w.hung.var_known v f k e)) in
          plan_here v k
          ∙ given_below P sound w.kept w.hanging w.hung roots.0 (λ f v x. w.takes f x v) v f k e
          ∙ ap (λ (x : ℕ). w.takes f x v) (sym (plan_here (above P w.hanging f) up));
    }

    figures : Figures E
    figures =
        let tree = tree_value R P w.hanging w.cut w.messages in
        let total = score R P (planned plan_list) in
        let removed = set_weight R (graph P) w.weight (outside w.kept) in record {
          plan = plan_list;
          kept = (some_packed w.kept).0;
          kept_count = count_below (kept_at (some_packed w.kept).0) 256;
          tree = tree;
          score = total;
          removed = removed;
          ceiling = R.join tree removed;
          share = share_of (R.shown total).0 (R.shown (R.join tree removed)).0;
        }

    reports : Reports R P w figures
    unfolding figures plan_list
    reports = record {
      plan_length = length_listed 64 cells;
      plan_past = plan_past;
      plan_chosen = plan_chosen;
      kept_words = (some_packed w.kept).1;
      kept_counted = refl;
      tree_is = refl;
      score_is = refl;
      removed_is = refl;
      ceiling_is = refl;
      share_is = refl;
    }

    variable_cell : ℕ → ℕ → E
    variable_cell v x = when R (ltb v (variables P) && ltb x (size P v)) (w.messages.q v x)

    function_cell : ℕ → ℕ → E
    function_cell f x = when R (ltb f (functions P) && ltb x (size P (above P w.hanging f))) (w.messages.r f x)

    choice_cell : ℕ → ℕ → ℕ
    choice_cell f x = cond (ltb f (functions P) && ltb x (size P (above P w.hanging f))) (position P f (w.takes f x)) 0

    value_cell : ℕ → E
    value_cell i = cond (ltb i 1024) (variable_cell (i / 16) (i % 16)) (cond (ltb i 2048) (function_cell (i / 16 - 64) (i % 16)) (w.weight (i - 2048)))

    stores : Stores E
    stores = record { values = listed 2304 value_cell; choices = listed 1024 (λ i. choice_cell (i / 16) (i % 16)) }

    stored : Stored R P w stores
    unfolding stores value_cell variable_cell function_cell choice_cell
    stored = record {
      value_cells = length_listed 2304 value_cell;
      choice_cells = length_listed 1024 (λ i. choice_cell (i / 16) (i % 16));
      variable_rows = λ v x h k.
          let row : (16 * v + x) / 16 ≡ v = omega arith in
          let cell : (16 * v + x) % 16 ≡ x = omega arith in
          getD_listed 2304 value_cell R.neutral (16 * v + x) (omega arith)
          ∙ cond-true (ltb (16 * v + x) 1024) _ _ (lt-ltb (16 * v + x) 1024 (omega arith))
          ∙ ap₂ variable_cell row cell;
      function_rows = λ f x h k.
          let row : (16 * (64 + f) + x) / 16 - 64 ≡ f = omega arith in
          let cell : (16 * (64 + f) + x) % 16 ≡ x = omega arith in
          getD_listed 2304 value_cell R.neutral (16 * (64 + f) + x) (omega arith)
          ∙ cond-false (ltb (16 * (64 + f) + x) 1024) _ _ (le-ltb (16 * (64 + f) + x) 1024 (omega arith))
          ∙ cond-true (ltb (16 * (64 + f) + x) 2048) _ _ (lt-ltb (16 * (64 + f) + x) 2048 (omega arith))
          ∙ ap₂ function_cell row cell;
      weight_rows = λ n h.
          let cell : 16 * 128 + n - 2048 ≡ n = omega arith in
          getD_listed 2304 value_cell R.neutral (16 * 128 + n) (omega arith)
          ∙ cond-false (ltb (16 * 128 + n) 1024) _ _ (le-ltb (16 * 128 + n) 1024 (omega arith))
          ∙ cond-false (ltb (16 * 128 + n) 2048) _ _ (le-ltb (16 * 128 + n) 2048 (omega arith))
          ∙ ap w.weight cell;
      choice_rows = λ f x h k.
          let row : (16 * f + x) / 16 ≡ f = omega arith in
          let cell : (16 * f + x) % 16 ≡ x = omega arith in
          getD_listed 1024 (λ i. choice_cell (i / 16) (i % 16)) 0 (16 * f + x) (omega arith) ∙ ap₂ choice_cell row cell;
    }

  solved_by : (weight : ℕ → E) (kept : ℕ → Bool) → KeptBy R P weight kept rule → (figures : Figures E) × (stores : Stores E) × Solved R P rule figures stores
  solved_by weight kept by_rule =
      let w = some_working weight kept by_rule in
      (figures w, stores w, record { working = w; reports = reports w; stored = stored w })

pub some_report : {E : Type 0} (R : Rules E) → Plain R → (P : Problem) → Fits P → (rule : Rule) → (rule ≡ straight → Cycle (graph P) every → ⊥) →
    (figures : Figures E) × (stores : Stores E) × Solved R P rule figures stores
some_report R L P fits straight no_cycle = let (w, k, s) = some_straight R L P fits.sound (no_cycle refl) in solved_by R L P fits straight w k s
some_report R L P fits bounded no_cycle = let (w, k, b) = some_bounded R L P fits.sound in solved_by R L P fits bounded w k b
