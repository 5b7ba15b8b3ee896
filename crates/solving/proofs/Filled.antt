-- The boards and the report when all messages are sent. Assumes nothing.
use Rattle.std.proofs.Common.{◌≡◌, ℕ, zero, ◌<◌, ◌≤◌, Bool, true, false, cond, ◌&&◌, ltb, List, map, length, get_or, sym, refl, ap, ◌∙◌, subst, inl, inr, arith}
use Rattle.std.proofs.lemmas.Bool.{cases_lt, lt-ltb, le-ltb}
use Rattle.std.proofs.lemmas.List.{get_or-replicate, length-map, length-replicate}
use Rattle.scale.specs.Rules.{Rules}
use Rattle.scale.specs.Laws.{Plain, EntryLaws}
use Rattle.theory.specs.Joins.{when, count_below}
use Rattle.theory.specs.Problem.{Problem, Plan, variables, functions, size, position, score}
use Rattle.theory.specs.Sizes.{Fits}
use Rattle.theory.specs.Graphs.{outside, set_weight}
use Rattle.theory.specs.Kept.{kept_at}
use Rattle.theory.specs.KeptBy.{Rule, KeptBy}
use Rattle.theory.specs.Links.{graph}
use Rattle.theory.specs.Forest.{Hanging, WellHung, above}
use Rattle.theory.specs.Messages.{Messages, tree_value}
use Rattle.theory.specs.Cut.{IsCut}
use Rattle.theory.proofs.CutTables.{cut_settled}
use Rattle.theory.proofs.MessagesExist.{some_messages}
use Rattle.theory.proofs.TablesExist.{some_cut}
use Rattle.rules.specs.Figures.{planned, share_of}
use Rattle.rules.specs.Report.{Working, Reports, Stored, Solved}
use Rattle.forest.specs.declared.links.Links.{Links}
use Rattle.keeping.specs.Weights.{weight_of}
use Rattle.hanging.specs.declared.hung.Hung.{Hung}
use Rattle.hanging.specs.Forest.{hanging_of}
use Rattle.spanning.specs.HungForest.{HungForest}
use Rattle.spanning.specs.WeightCells.{weight_cells}
use Rattle.joining.specs.Counts.{counts}
use Rattle.joining.specs.Standing.{StandsFor}
use Rattle.messages.specs.Counts.{one_entry}
use Rattle.messages.specs.Sending.{SendsAll, message_cells, any_choice_cells}
use Rattle.messages.specs.Sent.{Sent, variable_cell, function_cell, choice_cell}
use Rattle.messages.specs.Upward.{OnlyAt}
use Rattle.messages.proofs.Counting.{some_counts}
use Rattle.picking.specs.LedTo.{LedTo, TakesHeld}
use Rattle.picking.proofs.Held.{some_takes_held}
use Rattle.figures.specs.Ceiling.{CeilingOf}
use Rattle.figures.specs.TreeValue.{TreeValueOf}
use Rattle.solving.specs.declared.report.Report.{Report}
use Rattle.solving.specs.Blank.{Blank}
use Rattle.solving.specs.Report.{figures_of, stores_of, Within}
use Rattle.solving.proofs.Mapped.{mapped_at, weight_read, weights_same}

-- the value where both numbers are below their limits, and else the other
module _ {A : Type 0} (choose : Bool → A → A) (value other : A) (yes : choose true value ≡ value) (no : choose false value ≡ other) where
  pub both_below : (r : A) (a m b n : ℕ) → (a < m → b < n → r ≡ value) → (((a < m) × (b < n) → ⊥) → r ≡ other) → r ≡ choose (ltb a m && ltb b n) value
  both_below r a m b n inside outside = elim (cases_lt a m) [
    | inl low ↦ elim (cases_lt b n) [
      | inl low' ↦ inside low low' ∙ sym (ap (λ t. choose (t && ltb b n) value) (lt-ltb a m low) ∙ ap (λ t. choose t value) (lt-ltb b n low') ∙ yes)
      | inr past ↦ outside (λ both. omega (arith, both.1)) ∙ sym (ap (λ t. choose (t && ltb b n) value) (lt-ltb a m low) ∙ ap (λ t. choose t value) (le-ltb b n past) ∙ no)
    ]
    | inr past ↦ outside (λ both. omega (arith, both.0)) ∙ sym (ap (λ t. choose (t && ltb b n) value) (le-ltb a m past) ∙ no)
  ]

-- which cells are of messages and of choices
module _ (P : Problem) (fits : Fits P) (kept : ℕ → Bool) (H : Hanging) (well : WellHung P kept H) where
  -- the variable that a function hangs from is there
  up : (f : ℕ) → f < functions P → above P H f < variables P
  up f h = fits.sound.known f (H.fun_parent f) h (well.fun_place f h)

  narrow : (f x : ℕ) → f < functions P → x < size P (above P H f) → x < 16
  narrow f x h low = omega (arith, fits.small_domains (above P H f) (up f h))

  pub low_cells : (k : ℕ) → message_cells P H k → k < 2048
  low_cells k (inl (v, h, (x, low, is))) = omega (arith, fits.few_variables, fits.small_domains v h)
  low_cells k (inr (f, h, (x, low, is))) = omega (arith, fits.few_functions, narrow f x h low)

  of_variable : (v x : ℕ) → v < 64 → x < 16 → message_cells P H (variable_cell v x) → (v < variables P) × (x < size P v)
  of_variable v x k n (inl (u, h, (y, low, is))) =
      let small = fits.small_domains u h in
      let same : u ≡ v = omega arith in
      let same' : y ≡ x = omega arith in
      (subst (λ (w : ℕ). w < variables P) same h, subst (λ (w : ℕ). x < size P w) same (omega arith))
  of_variable v x k n (inr (f, h, (y, low, is))) = absurd (omega arith)

  of_function : (f x : ℕ) → f < 64 → x < 16 → message_cells P H (function_cell f x) → (f < functions P) × (x < size P (above P H f))
  of_function f x k n (inl (u, h, (y, low, is))) = absurd (omega (arith, fits.small_domains u h, fits.few_variables))
  of_function f x k n (inr (g, h, (y, low, is))) =
      let small = narrow g y h low in
      let same : g ≡ f = omega arith in
      let same' : y ≡ x = omega arith in
      (subst (λ (w : ℕ). w < functions P) same h, subst (λ (w : ℕ). x < size P (above P H w)) same (omega arith))

  of_choice : (f x : ℕ) → f < 64 → x < 16 → any_choice_cells P H (choice_cell f x) → (f < functions P) × (x < size P (above P H f))
  of_choice f x k n (g, h, (y, low, is)) =
      let small = narrow g y h low in
      let same : g ≡ f = omega arith in
      let same' : y ≡ x = omega arith in
      (subst (λ (w : ℕ). w < functions P) same h, subst (λ (w : ℕ). x < size P (above P H w)) same (omega arith))

-- From blank boards, all messages are sent, with the choices.
pub record Passed {V E : Type 0} (R : Rules E) (means : V → E) (within : ℕ → V → Type 0) (P : Problem) (kept : ℕ → Bool) (H : Hanging) (before cells : List V) (taken choices : List ℕ) : Type 0 where
  pub sends : SendsAll R means within P kept H cells choices
  pub only : OnlyAt (message_cells P H) before cells
  pub only' : OnlyAt (any_choice_cells P H) taken choices
  pub long : length cells ≡ length before
  pub long' : length choices ≡ length taken

-- What the report r tells of the messages.
pub record Told {V E : Type 0} (R : Rules E) (means : V → E) (within : ℕ → V → Type 0) (P : Problem) (links : Links) (H : Hanging) (cells : List V) (choices : List ℕ) (r : Report V) : Type 0 where
  pub long : length r.plan ≡ 64
  pub past : (v : ℕ) → variables P ≤ v → planned r.plan v ≡ 0
  pub chosen : LedTo R means within P (kept_at links.words) H cells choices (planned r.plan)
  pub kept : r.kept ≡ links
  pub counted : r.kept_count ≡ count_below (kept_at links.words) 256
  pub tree : TreeValueOf R means within P H cells r.tree
  pub score : means r.score ≡ score R P (planned r.plan)
  pub removed : means r.removed ≡ set_weight R (graph P) (weight_of R means (weight_cells cells)) (outside (kept_at links.words))
  pub ceiling : CeilingOf R means within r.tree r.removed r.ceiling
  pub share : r.share ≡ share_of (R.shown (means r.score)).0 (R.shown (means r.ceiling)).0
  pub few : within 64 r.score × within 512 r.removed

module _ {V E : Type 0} (R : Rules E) (L : Plain R) (means : V → E) (within : ℕ → V → Type 0) (ties : EntryLaws R within) (P : Problem) (fits : Fits P) (links : Links) (r : Hung) (hung : HungForest P (kept_at links.words) r)
    {before cells : List V} {taken choices : List ℕ} (blank : Blank R means within before taken) (passed : Passed R means within P (kept_at links.words) (hanging_of r) before cells taken choices)
    {report : Report V} (told : Told R means within P links (hanging_of r) cells choices report) where
  open passed use {sends, only, only', long, long'}

  abbrev H : Hanging
  H = hanging_of r

  abbrev kept : ℕ → Bool
  kept = kept_at links.words

  -- a cell of no message is neutral still, and one of no choice 0
  neutral_still : (k : ℕ) → k < 2048 → (message_cells P H k → ⊥) → (d : V) → means (get_or cells k d) ≡ R.neutral
  neutral_still k low apart d = ap means (only k d apart) ∙ (blank.neutral k low d).exact

  zero_still : (k : ℕ) → k < 1024 → (any_choice_cells P H k → ⊥) → get_or choices k 0 ≡ 0
  zero_still k low apart = only' k 0 apart ∙ ap (λ s. get_or s k 0) blank.choices ∙ get_or-replicate 1024 k 0 0 low

  same_weights : map means (weight_cells cells) ≡ map means (weight_cells before)
  same_weights = weights_same means cells before R.neutral long (omega (arith, blank.values)) (λ k d high. only k d (λ own. omega (arith, low_cells P fits kept H hung.well k own)))

  cut : (cut : ℕ → Plan → E) × IsCut R P kept cut
  cut = some_cut R P fits.sound L kept

  messages : Messages R P H cut.0
  messages = some_messages R L P fits.sound kept H hung.well cut.0 (cut_settled R L P kept cut.1)

  counted : Messages counts P H one_entry
  counted = some_counts P fits.sound kept H hung.well

  sent : Sent R means within P kept H cut.0 messages counted cells choices
  sent = sends cut.0 cut.1 messages counted

  takes : (takes : ℕ → ℕ → Plan) × TakesHeld R means within P kept H cut.0 messages choices takes
  takes = some_takes_held R means within P kept H cut.0 messages counted cells choices sent

  tree_stands : StandsFor means within (tree_value R P H cut.0 messages) 64 report.tree
  tree_stands =
      let stands = told.tree kept hung.well cut.0 messages counted (λ v h. sent.variables v h) in
      record { exact = stands.exact; few = ties.wider (functions P) 64 report.tree fits.few_functions stands.few }

  ceiling_stands : StandsFor means within (R.join (means report.tree) (means report.removed)) 576 report.ceiling
  ceiling_stands = told.ceiling (means report.tree) (means report.removed) (record { exact = refl; few = tree_stands.few }) (record { exact = refl; few = told.few.1 })

  pub few_entries : Within within report
  few_entries = record { tree = tree_stands.few; score = told.few.0; removed = told.few.1; ceiling = ceiling_stands.few }

  module _ (rule : Rule) (by_rule : KeptBy R P (weight_of R means (weight_cells before)) (kept_at links.words) rule) where
    working : Working R P rule
    working = record {
      weight = weight_of R means (weight_cells before);
      kept = kept;
      by_rule = by_rule;
      cut = cut.0;
      is_cut = cut.1;
      hanging = H;
      hung = hung.well;
      lowest_roots = hung.lowest;
      messages = messages;
      takes = takes.0;
      taken = λ f x h k. (takes.1 f x h k).0;
    }

    stored : Stored R P working (stores_of means cells choices)
    unfolding working
    stored = record {
      value_cells = length-map cells means ∙ long ∙ blank.values;
      choice_cells = long' ∙ ap length blank.choices ∙ length-replicate 1024 zero;
      variable_rows = λ v x h k. both_below (when R) (messages.q v x) R.neutral refl refl _ v (variables P) x (size P v)
          (λ known low. mapped_at means cells R.neutral (variable_cell v x) (messages.q v x) (omega (arith, long, blank.values)) (λ d. (sent.variables v known x low d).exact))
          (λ not. mapped_at means cells R.neutral (variable_cell v x) R.neutral (omega (arith, long, blank.values))
          (neutral_still (variable_cell v x) (omega arith) (λ own. not (of_variable P fits kept H hung.well v x h k own))));
      function_rows = λ f x h k. both_below (when R) (messages.r f x) R.neutral refl refl _ f (functions P) x (size P (above P H f))
          (λ known low. mapped_at means cells R.neutral (function_cell f x) (messages.r f x) (omega (arith, long, blank.values)) (λ d. ((sent.functions f known x low).0 d).exact))
          (λ not. mapped_at means cells R.neutral (function_cell f x) R.neutral (omega (arith, long, blank.values))
          (neutral_still (function_cell f x) (omega arith) (λ own. not (of_function P fits kept H hung.well f x h k own))));
      weight_rows = λ n h. sym (weight_read means cells R.neutral n h) ∙ ap (λ s. get_or s n R.neutral) same_weights;
      choice_rows = λ f x h k. both_below (λ b (a : ℕ). cond b a 0) (position P f (takes.0 f x)) 0 refl refl _ f (functions P) x (size P (above P H f))
          (λ known low. sym (takes.1 f x known low).1)
          (λ not. zero_still (choice_cell f x) (omega arith) (λ own. not (of_choice P fits kept H hung.well f x h k own)));
    }

    reports : Reports R P working (figures_of means report)
    unfolding working
    reports = record {
      plan_length = told.long;
      plan_past = told.past;
      plan_chosen = told.chosen.chosen cut.0 messages counted sent takes.0 takes.1;
      kept_words = record {
        four = report.kept.room;
        small = λ k h. report.kept.fit k;
        bits = λ n h. ap (λ (l : Links). kept_at l.words n) told.kept;
      };
      kept_counted = told.counted ∙ sym (ap (λ (l : Links). count_below (kept_at l.words) 256) told.kept);
      tree_is = tree_stands.exact;
      score_is = told.score;
      removed_is = told.removed ∙ ap (λ s. set_weight R (graph P) (λ n. get_or s n R.neutral) (outside kept)) same_weights;
      ceiling_is = ceiling_stands.exact;
      share_is = told.share;
    }

    pub solved : Solved R P rule (figures_of means report) (stores_of means cells choices)
    solved = record { working = working; reports = reports; stored = stored }
