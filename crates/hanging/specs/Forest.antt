-- The forest of the kept links, all hung. Assumes nothing.
use Rattle.std.specs.Prelude.{◌≡◌, ℕ, ◌<◌, Bool, true, map, Some, ◌≢◌}
use Rattle.theory.specs.Problem.{Problem, Function, Sound, variables, functions, arity}
use Rattle.theory.specs.Graphs.{Cycle}
use Rattle.theory.specs.Links.{link, graph}
use Rattle.theory.specs.Forest.{Hanging, WellHung, LowestRoots, above}
use Rattle.layout.specs.declared.layout.Layout.{Layout}
use Rattle.layout.specs.View.{domains_of, scopes_of}
use Rattle.hanging.specs.declared.hung.Hung.{Hung}
use Rattle.hanging.specs.declared.node.Node.{Node}
use Rattle.hanging.specs.declared.node.Node.TheVariants as node
use Rattle.hanging.specs.Hung.{variable_at, place_of, count_of, node_at, hung_node}
use Rattle.hanging.specs.Growing.{Stands, Before}

-- The problem has the domains and scopes of the layout.
pub record Shaped (l : Layout) (P : Problem) : Type 0 where
  pub domains : P.domains ≡ domains_of l
  pub scopes : map (λ (f : Function). f.scope) P.tables ≡ scopes_of l

-- Each function has a kept link.
abbrev pub EachKept : Problem → (ℕ → Bool) → Type 0
EachKept P kept = (f : ℕ) → f < functions P → (p : ℕ) × (p < arity P f) × (kept (link f p) ≡ true)

-- what each node hangs from, as it is written down
abbrev pub hanging_of : Hung → Hanging
hanging_of r = record { var_parent = λ v. (variable_at r v).parent; fun_parent = place_of r }

-- b is a node of the problem.
abbrev pub Known : Problem → Node → Type 0
Known P (node.Variable v) = v < variables P
Known P (node.Function f) = f < functions P

-- The order lists each node of the problem once, and each after the node that it hangs from.
pub record InOrder (P : Problem) (r : Hung) : Type 0 where
  pub each : (b : Node) → Known P b → (i : ℕ) × Stands r i b
  pub only : (i : ℕ) → i < count_of r → Known P (node_at r i)
  pub once : (i j : ℕ) → i < j → j < count_of r → node_at r i ≢ node_at r j
  pub below : (v f : ℕ) → v < variables P → (hanging_of r).var_parent v ≡ Some f → Before r (node.Function f) (node.Variable v)
  pub under : (f : ℕ) → f < functions P → Before r (node.Variable (above P (hanging_of r) f)) (node.Function f)

-- H and H' hang each node of the problem alike.
pub record SameHanging (P : Problem) (H H' : Hanging) : Type 0 where
  pub var_same : (v : ℕ) → v < variables P → H.var_parent v ≡ H'.var_parent v
  pub fun_same : (f : ℕ) → f < functions P → H.fun_parent f ≡ H'.fun_parent f

-- The forest of the kept links hangs in r: every node if each function has a kept link, and by every kept link if these form no cycle.
pub record HangsForest (P : Problem) (kept : ℕ → Bool) (r : Hung) : Type 0 where
  pub lowest : LowestRoots P kept (hanging_of r)
  pub all : EachKept P kept → (b : Node) → Known P b → hung_node r b ≡ true
  pub order : EachKept P kept → InOrder P r
  pub well : EachKept P kept → (Cycle (graph P) kept → ⊥) → WellHung P kept (hanging_of r)
  -- It hangs so in no other way.
  pub unique : EachKept P kept → (Cycle (graph P) kept → ⊥) → Sound P → (H : Hanging) → WellHung P kept H → LowestRoots P kept H → SameHanging P H (hanging_of r)
