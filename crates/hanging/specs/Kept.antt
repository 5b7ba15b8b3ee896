-- The kept links of a layout, and the nodes that they join. Assumes nothing.
use Rattle.std.specs.Prelude.{◌≡◌, ℕ, ◌+◌, ◌/◌, Bool, length}
use Rattle.theory.specs.Graphs.{Uses, Joined}
use Rattle.layout.specs.declared.layout.Layout.{Layout}
use Rattle.layout.specs.View.{domains_of}
use Rattle.forest.specs.FactorGraph.{layout_graph}
use Rattle.hanging.specs.declared.node.Node.{Node}
use Rattle.hanging.specs.declared.node.Node.TheVariants as node

-- the node as the factor graph numbers it: the variables and then the functions
abbrev pub number : Layout → Node → ℕ
number l (node.Variable v) = v
number l (node.Function f) = length (domains_of l) + f

module _ (l : Layout) (K : ℕ → Bool) where
  -- n is a kept link.
  abbrev pub Kept : ℕ → Type 0
  Kept n = Uses (layout_graph l) K n

  -- The link n is kept, and v is its variable.
  abbrev pub LeadsTo : ℕ → ℕ → Type 0
  LeadsTo n v = Kept n × ((layout_graph l).left n ≡ v)

  -- A kept link joins the variable v and the function f.
  pub record Linked (v f : ℕ) : Type 0 where
    pub link : ℕ
    pub kept : Kept link
    pub variable : (layout_graph l).left link ≡ v
    pub function : link / 4 ≡ f

  -- a and b are neighbours by a kept link.
  abbrev pub Neighbours : Node → Node → Type 0
  Neighbours (node.Variable v) (node.Function f) = Linked v f
  Neighbours (node.Function f) (node.Variable v) = Linked v f
  Neighbours (node.Variable v) (node.Variable w) = ⊥
  Neighbours (node.Function f) (node.Function g) = ⊥

  -- Kept links lead from a to b.
  abbrev pub Reaches : Node → Node → Type 0
  Reaches a b = Joined (layout_graph l) K (number l a) (number l b)
