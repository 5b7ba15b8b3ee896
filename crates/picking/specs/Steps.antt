-- How the plan grows node by node along the hung order. Only for inner functions. Assumes nothing.
use Rattle.std.specs.Prelude.{◌≡◌, ℕ, ◌<◌, true, false, List, length, Some, ◌≢◌, slice_index, slice_index_or}
use Rattle.scale.specs.Rules.{Rules}
use Rattle.theory.specs.Problem.{Problem, variables, size, arity, at, product}
use Rattle.theory.specs.Forest.{Hanging, is_root, above}
use Rattle.rules.specs.Figures.{planned}
use Rattle.hanging.specs.declared.node.Node.{Node}
use Rattle.hanging.specs.declared.node.Node.TheVariants as node
use Rattle.messages.specs.declared.places.Places.{Places}
use Rattle.messages.specs.Combinations.{sizes_at}
use Rattle.messages.specs.Places.{place_in}
use Rattle.messages.specs.Positions.{value_at}
use Rattle.messages.specs.Sent.{variable_cell, choice_cell}

-- The plan has 64 values, each below 16.
pub record SmallPlan (plan : List ℕ) : Type 0 where
  pub long : length plan ≡ 64
  pub small : (v : ℕ) → planned plan v < 16

-- x is the lowest value at which a message is highest, given its entries by value.
pub record LowestHighest {V E : Type 0} (R : Rules E) (means : V → E) (message : List V) (x : ℕ) : Type 0 where
  pub fits : x < length message
  pub highest : (z : ℕ) (d : V) → z < length message → R.leq (means (slice_index_or message z d)) (means (slice_index_or message x d)) ≡ true
  pub lowest : (z : ℕ) (d : V) → z < x → R.leq (means (slice_index_or message x d)) (means (slice_index_or message z d)) ≡ false

-- x is the lowest of the first n values of the variable v whose cell is highest.
pub record LowestBest {V E : Type 0} (R : Rules E) (means : V → E) (cells : List V) (v n x : ℕ) : Type 0 where
  pub fits : x < n
  pub highest : (z : ℕ) (d : V) → z < n → R.leq (means (slice_index_or cells (variable_cell v z) d)) (means (slice_index_or cells (variable_cell v x) d)) ≡ true
  pub lowest : (z : ℕ) (d : V) → z < x → R.leq (means (slice_index_or cells (variable_cell v x) d)) (means (slice_index_or cells (variable_cell v z) d)) ≡ false

-- x is a value of the variable v: what stands there at position i of the table of f.
pub record ValueAt (P : Problem) (f i v x : ℕ) : Type 0 where
  pub fits : x < size P v
  pub stands : (p : ℕ) → p < arity P f → at P f p ≡ v → i < product (sizes_at P f) → x ≡ value_at P f i p

-- Of the first n places, each whose variable hangs from the function gives that variable its value. No other variable changes.
pub record Handed (s : Places) (values : List ℕ) (n : ℕ) (before after : List ℕ) : Type 0 where
  pub given : (p : ℕ) → p < n → (place_in s p).below ≡ true → planned after (place_in s p).variable ≡ slice_index values p
  pub others : (v : ℕ) → ((p : ℕ) → p < n → (place_in s p).below ≡ true → (place_in s p).variable ≢ v) → planned after v ≡ planned before v

-- Where the variable v is a root, it gets its lowest value whose cell is highest. No other variable changes.
pub record RootGiven {V E : Type 0} (R : Rules E) (means : V → E) (P : Problem) (H : Hanging) (cells : List V) (v : ℕ) (before after : List ℕ) : Type 0 where
  pub root : is_root H v ≡ true → LowestBest R means cells v (size P v) (planned after v)
  pub others : (u : ℕ) → ((u ≡ v) × (is_root H v ≡ true) → ⊥) → planned after u ≡ planned before u

-- the position that the function f takes at the plan's value of its parent
abbrev pub chosen_at : Problem → Hanging → List ℕ → List ℕ → ℕ → ℕ
chosen_at P H choices plan f = slice_index choices (choice_cell f (planned plan (above P H f)))

-- The variables that hang from the function f get their values at the position that it takes. No other variable changes.
pub record BelowGiven (P : Problem) (H : Hanging) (choices : List ℕ) (f : ℕ) (before after : List ℕ) : Type 0 where
  pub below : (v : ℕ) → v < variables P → H.var_parent v ≡ Some f → ValueAt P f (chosen_at P H choices before f) v (planned after v)
  pub others : (u : ℕ) → ((u < variables P) × (H.var_parent u ≡ Some f) → ⊥) → planned after u ≡ planned before u

-- what is given at a node
abbrev pub Given : {V E : Type 0} → Rules E → (V → E) → Problem → Hanging → List V → List ℕ → Node → List ℕ → List ℕ → Type 0
Given R means P H cells choices (node.Variable v) before after = RootGiven R means P H cells v before after
Given R means P H cells choices (node.Function f) before after = BelowGiven P H choices f before after
