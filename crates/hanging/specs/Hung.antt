-- The nodes hung so far, and one node more. Assumes nothing.
use Rattle.std.specs.Prelude.{◌≡◌, ℕ, ◌+◌, List, [], ◌∷◌, ◌++◌, length, Bool, true, false, not, replicate, Some, None, count_by, Option, is_some, unwrap_or, slice_index_or, slice_set}
use Rattle.short_list.specs.View.{items_of}
use Rattle.hanging.specs.declared.hung.Hung.{Hung}
use Rattle.hanging.specs.declared.node.Variable.{Variable}
use Rattle.hanging.specs.declared.node.Function.{Function}
use Rattle.hanging.specs.declared.node.Node.{Node}
use Rattle.hanging.specs.declared.node.Node.TheVariants as node

abbrev pub no_variable : Variable
no_variable = record { hung = false; parent = None }

abbrev pub no_function : Function
no_function = record { parent = None }

abbrev pub no_node : Node
no_node = node.Variable 0

abbrev pub variable_at : Hung → ℕ → Variable
variable_at s v = slice_index_or s.variables v no_variable

abbrev pub function_at : Hung → ℕ → Function
function_at s f = slice_index_or s.functions f no_function

-- the place by which a function hangs; 0 where it is not hung
abbrev pub place_of : Hung → ℕ → ℕ
place_of s f = unwrap_or (function_at s f).parent 0

-- the hung nodes in order, and how many there are
abbrev pub order_of : Hung → List Node
order_of s = items_of s.order

abbrev pub count_of : Hung → ℕ
count_of s = length (order_of s)

abbrev pub node_at : Hung → ℕ → Node
node_at s i = slice_index_or (order_of s) i no_node

-- whether a node is hung
abbrev pub hung_node : Hung → Node → Bool
hung_node s (node.Variable v) = (variable_at s v).hung
hung_node s (node.Function f) = is_some (function_at s f).parent

-- how many nodes are not hung
abbrev pub loose : Hung → ℕ
loose s = count_by (λ x. not x.hung) s.variables + count_by (λ x. not (is_some x.parent)) s.functions

-- In s no node is hung.
pub record NoneHung (s : Hung) : Type 0 where
  pub variables : s.variables ≡ replicate 64 no_variable
  pub functions : s.functions ≡ replicate 64 no_function
  pub order : order_of s ≡ []

-- From s to t one variable more is hung: it hangs from p, and stands last in the order. No other record changes.
pub record WithVariable (s : Hung) (v : ℕ) (p : Option ℕ) (t : Hung) : Type 0 where
  pub variables : t.variables ≡ slice_set s.variables v (record { hung = true; parent = p })
  pub functions : t.functions ≡ s.functions
  pub order : order_of t ≡ order_of s ++ (node.Variable v ∷ [])

-- From s to t one function more is hung: it hangs by the place p, and stands last in the order. No other record changes.
pub record WithFunction (s : Hung) (f p : ℕ) (t : Hung) : Type 0 where
  pub variables : t.variables ≡ s.variables
  pub functions : t.functions ≡ slice_set s.functions f (record { parent = Some p })
  pub order : order_of t ≡ order_of s ++ (node.Function f ∷ [])
