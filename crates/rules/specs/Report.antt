-- The report of a solve, as a relation between a problem, a rule and figures. Assumes nothing.
use Rattle.std.specs.Prelude.{◌≡◌, ℕ, ◌+◌, ◌*◌, ◌<◌, ◌≤◌, Bool, true, false, cond, ◌&&◌, length, Some, nat_lt, slice_index, slice_index_or}
use Rattle.scale.specs.Rules.{Rules}
use Rattle.theory.specs.Joins.{when, count_below}
use Rattle.theory.specs.Problem.{Problem, Plan, Valid, variables, functions, size, arity, at, position, score}
use Rattle.theory.specs.Graphs.{outside, set_weight}
use Rattle.theory.specs.Kept.{kept_at}
use Rattle.theory.specs.KeptBy.{Rule, KeptBy}
use Rattle.theory.specs.Links.{link, graph}
use Rattle.theory.specs.Cut.{IsCut}
use Rattle.theory.specs.Forest.{Hanging, WellHung, LowestRoots, is_root, above}
use Rattle.theory.specs.Messages.{Messages, tree_value, from_variables}
use Rattle.rules.specs.Figures.{Figures, Stores, Packed, planned, share_of}

module _ {E : Type 0} (R : Rules E) (P : Problem) where
  module _ (kept : ℕ → Bool) (H : Hanging) (cut : ℕ → Plan → E) (m : Messages R P H cut) where
    -- y has the value x at the parent of f and 0 at its removed places, and reaches the message of f at x
    pub record Reaches (f x : ℕ) (y : Plan) : Type 0 where
      pub valid : Valid P y
      pub here : y (above P H f) ≡ x
      pub zeros : (p : ℕ) → p < arity P f → kept (link f p) ≡ false → y (at P f p) ≡ 0
      pub reached : R.join (cut f y) (from_variables R P H m.q f y) ≡ m.r f x

    -- and is the first such combination in table order
    pub record Takes (f x : ℕ) (y : Plan) : Type 0 where
      pub reaches : Reaches f x y
      pub first : (z : Plan) → Reaches f x z → position P f y ≤ position P f z

    -- A root has its lowest value whose message is highest; the variables below a function have what it takes at its parent's value.
    pub record Chosen (takes : ℕ → ℕ → Plan) (y : Plan) : Type 0 where
      pub fits : (v : ℕ) → v < variables P → is_root H v ≡ true → y v < size P v
      pub highest : (v : ℕ) → v < variables P → is_root H v ≡ true → m.q v (y v) ≡ m.best v
      pub lowest : (v x : ℕ) → v < variables P → is_root H v ≡ true → x < size P v → m.q v x ≡ m.best v → y v ≤ x
      pub below : (v f : ℕ) → v < variables P → H.var_parent v ≡ Some f → y v ≡ takes f (y (above P H f)) v

  -- What a solve by a rule finds: link weights, kept links, cut tables, the hung forest, the messages, and what each function takes at each value of its parent.
  pub record Working (rule : Rule) : Type 0 where
    pub weight : ℕ → E
    pub kept : ℕ → Bool
    pub by_rule : KeptBy R P weight kept rule
    pub cut : ℕ → Plan → E
    pub is_cut : IsCut R P kept cut
    pub hanging : Hanging
    pub hung : WellHung P kept hanging
    pub lowest_roots : LowestRoots P kept hanging
    pub messages : Messages R P hanging cut
    pub takes : ℕ → ℕ → Plan
    pub taken : (f x : ℕ) → f < functions P → x < size P (above P hanging f) → Takes kept hanging cut messages f x (takes f x)

  module _ {rule : Rule} (w : Working rule) where
    -- The figures of a report.
    pub record Reports (figures : Figures E) : Type 0 where
      pub plan_length : length figures.plan ≡ 64
      pub plan_past : (v : ℕ) → variables P ≤ v → planned figures.plan v ≡ 0
      pub plan_chosen : Chosen w.kept w.hanging w.cut w.messages w.takes (planned figures.plan)
      pub kept_words : Packed w.kept figures.kept
      pub kept_counted : figures.kept_count ≡ count_below (kept_at figures.kept) 256
      pub tree_is : figures.tree ≡ tree_value R P w.hanging w.cut w.messages
      pub score_is : figures.score ≡ score R P (planned figures.plan)
      pub removed_is : figures.removed ≡ set_weight R (graph P) w.weight (outside w.kept)
      pub ceiling_is : figures.ceiling ≡ R.join figures.tree figures.removed
      pub share_is : figures.share ≡ share_of (R.shown figures.score).0 (R.shown figures.ceiling).0

    -- The stores: rows 0 to 63 hold the variables' messages, 64 to 127 the functions', 128 to 143 the link weights; the choice store the index that each function takes. Other cells are neutral, or 0.
    pub record Stored (stores : Stores E) : Type 0 where
      pub value_cells : length stores.values ≡ 2304
      pub choice_cells : length stores.choices ≡ 1024
      pub variable_rows : (v x : ℕ) → v < 64 → x < 16 → slice_index_or stores.values (16 * v + x) R.neutral ≡ when R (nat_lt v (variables P) && nat_lt x (size P v)) (w.messages.q v x)
      pub function_rows : (f x : ℕ) → f < 64 → x < 16 → slice_index_or stores.values (16 * (64 + f) + x) R.neutral ≡ when R (nat_lt f (functions P) && nat_lt x (size P (above P w.hanging f))) (w.messages.r f x)
      pub weight_rows : (n : ℕ) → n < 256 → slice_index_or stores.values (16 * 128 + n) R.neutral ≡ w.weight n
      pub choice_rows : (f x : ℕ) → f < 64 → x < 16 → slice_index stores.choices (16 * f + x) ≡ cond (nat_lt f (functions P) && nat_lt x (size P (above P w.hanging f))) (position P f (w.takes f x)) 0

  -- A solve of the problem by the rule has these figures, and leaves this in the stores.
  pub record Solved (rule : Rule) (figures : Figures E) (stores : Stores E) : Type 0 where
    pub working : Working rule
    pub reports : Reports working figures
    pub stored : Stored working stores
