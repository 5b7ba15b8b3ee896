-- The factor graph of a layout. Assumes nothing.
use Rattle.std.specs.Prelude.{◌≡◌, ℕ, true, length, slice_index}
use Rattle.theory.specs.Graphs.{Graph}
use Rattle.theory.specs.Links.{factor_graph}
use Rattle.layout.specs.declared.layout.Layout.{Layout}
use Rattle.layout.specs.View.{domains_of, scopes_of, scope_in}

abbrev pub layout_graph : Layout → Graph
layout_graph l = factor_graph (length (domains_of l)) (length (scopes_of l)) (λ f. length (scope_in l f)) (λ f p. slice_index (scope_in l f) p)

-- The present link n leads from a to b.
pub record Leads (G : Graph) (n a b : ℕ) : Type 0 where
  pub there : G.present n ≡ true
  pub from : a ≡ G.left n
  pub to : b ≡ G.right n
