-- What holds while nodes are hung, and what hanging a node does. Assumes nothing.
use Rattle.std.specs.Prelude.{◌≡◌, ℕ, ◌+◌, ◌*◌, ◌<◌, ◌≤◌, Bool, true, false, length, Some, None, Option, is_some, ◌≢◌}
use Rattle.layout.specs.declared.layout.Layout.{Layout}
use Rattle.forest.specs.FactorGraph.{layout_graph}
use Rattle.hanging.specs.declared.hung.Hung.{Hung}
use Rattle.hanging.specs.declared.node.Node.{Node}
use Rattle.hanging.specs.declared.node.Node.TheVariants as node
use Rattle.hanging.specs.Hung.{variable_at, function_at, count_of, node_at, hung_node, loose, WithVariable, WithFunction}
use Rattle.hanging.specs.Kept.{Kept, Linked, Neighbours, Reaches}

-- b stands at position i of the order.
pub record Stands (s : Hung) (i : ℕ) (b : Node) : Type 0 where
  pub within : i < count_of s
  pub here : node_at s i ≡ b

-- a stands before b in the order.
pub record Before (s : Hung) (a b : Node) : Type 0 where
  pub first : ℕ
  pub second : ℕ
  pub less : first < second
  pub one : Stands s first a
  pub other : Stands s second b

-- The order lists the hung nodes, each once.
pub record Listed (s : Hung) : Type 0 where
  pub each : (b : Node) → hung_node s b ≡ true → (i : ℕ) × Stands s i b
  pub only : (i : ℕ) → i < count_of s → hung_node s (node_at s i) ≡ true
  pub once : (i j : ℕ) → i < j → j < count_of s → node_at s i ≢ node_at s j

module _ (l : Layout) (K : ℕ → Bool) where
  -- The variable v hangs from the function f by a kept link.
  pub record Below (s : Hung) (v f : ℕ) : Type 0 where
    pub linked : Linked l K v f
    pub before : Before s (node.Function f) (node.Variable v)

  -- The function f hangs by the place p, whose link is kept, from the variable there.
  pub record Under (s : Hung) (f p : ℕ) : Type 0 where
    pub place : p < 4
    pub kept : Kept l K (4 * f + p)
    pub before : Before s (node.Variable ((layout_graph l).left (4 * f + p))) (node.Function f)

  -- Each hung node hangs by a kept link from one that was hung before.
  pub record Sound (s : Hung) : Type 0 where
    pub sizes : (length s.variables ≡ 64) × (length s.functions ≡ 64)
    pub room : loose s + count_of s ≡ 128
    pub listed : Listed s
    pub below : (v f : ℕ) → (variable_at s v).hung ≡ true → (variable_at s v).parent ≡ Some f → Below s v f
    pub under : (f p : ℕ) → (function_at s f).parent ≡ Some p → Under s f p

  -- From s to t more nodes are hung, each joined to a and none of them a root, with their neighbours by kept links. No record of a hung node changes.
  pub record Grows (a : Node) (s t : Hung) : Type 0 where
    pub variables : (v : ℕ) → (variable_at s v).hung ≡ true → variable_at t v ≡ variable_at s v
    pub functions : (f : ℕ) → is_some (function_at s f).parent ≡ true → function_at t f ≡ function_at s f
    pub inner : (v : ℕ) → (variable_at s v).hung ≡ false → (variable_at t v).hung ≡ true → (variable_at t v).parent ≢ None
    pub around : (b c : Node) → hung_node s b ≡ false → hung_node t b ≡ true → Neighbours l K b c → hung_node t c ≡ true
    pub joined : (b : Node) → hung_node s b ≡ false → hung_node t b ≡ true → Reaches l K a b
    pub fewer : loose t ≤ loose s

  -- From s, where the node a was hung last, to t all that is below a is hung too.
  pub record Hangs (a : Node) (s t : Hung) : Type 0 where
    pub sound : Sound t
    pub grows : Grows a s t
    pub around : (c : Node) → Neighbours l K a c → hung_node t c ≡ true

  -- From s to t the variable v hangs from p, and all that is below it hangs too.
  abbrev pub HangsVariable : Hung → ℕ → Option ℕ → Hung → Type 0
  HangsVariable s v p t = (m : Hung) × WithVariable s v p m × Hangs (node.Variable v) m t

  -- From s to t the function f hangs by the place p, and all that is below it hangs too.
  abbrev pub HangsFunction : Hung → ℕ → ℕ → Hung → Type 0
  HangsFunction s f p t = (m : Hung) × WithFunction s f p m × Hangs (node.Function f) m t

  -- The variable v is not hung, and can hang from p: from none, or from a hung function that a kept link joins to it.
  pub record FreeVariable (s : Hung) (v : ℕ) (p : Option ℕ) : Type 0 where
    pub within : v < 64
    pub loose : (variable_at s v).hung ≡ false
    pub linked : (f : ℕ) → p ≡ Some f → Linked l K v f
    pub above : (f : ℕ) → p ≡ Some f → is_some (function_at s f).parent ≡ true

  -- The function f is not hung, and can hang by the place p, whose link is kept, from a hung variable.
  pub record FreeFunction (s : Hung) (f p : ℕ) : Type 0 where
    pub within : f < 64
    pub loose : is_some (function_at s f).parent ≡ false
    pub place : p < 4
    pub kept : Kept l K (4 * f + p)
    pub above : (variable_at s ((layout_graph l).left (4 * f + p))).hung ≡ true
