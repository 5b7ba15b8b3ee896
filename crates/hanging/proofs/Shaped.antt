-- A problem with the domains and scopes of a layout has its factor graph. Assumes nothing.
use Rattle.std.proofs.Common.{◌≡◌, ℕ, zero, suc, List, [], ◌∷◌, map, length, get_or, sym, refl, ap, ◌∙◌}
use mathlib.Core.Path.{fun_ext}
use Rattle.std.proofs.lemmas.List.{length-map}
use Rattle.theory.specs.Problem.{Problem, Function, variables, functions, scope_of, arity, at}
use Rattle.theory.specs.Links.{graph, factor_graph}
use Rattle.layout.specs.declared.layout.Layout.{Layout}
use Rattle.layout.specs.View.{domains_of, scopes_of, scope_in}
use Rattle.forest.specs.FactorGraph.{layout_graph}
use Rattle.hanging.specs.Forest.{Shaped}

scope_at : (fs : List Function) (f : ℕ) → get_or (map (λ (g : Function). g.scope) fs) f [] ≡ (get_or fs f (record { scope = []; words = [] })).scope
scope_at [] f = refl
scope_at (g ∷ fs) zero = refl
scope_at (g ∷ fs) (suc f) = scope_at fs f

module _ {l : Layout} {P : Problem} (shaped : Shaped l P) where
  pub same_variables : variables P ≡ length (domains_of l)
  same_variables = ap length shaped.domains

  pub same_functions : functions P ≡ length (scopes_of l)
  same_functions = sym (length-map P.tables (λ (f : Function). f.scope)) ∙ ap length shaped.scopes

  pub same_scope : (f : ℕ) → scope_of P f ≡ scope_in l f
  unfolding scope_of
  same_scope f = sym (scope_at P.tables f) ∙ ap (λ ss. get_or ss f []) shaped.scopes

  pub same_at : (f p : ℕ) → at P f p ≡ get_or (scope_in l f) p 0
  unfolding at
  same_at f p = ap (λ s. get_or s p 0) (same_scope f)

  pub same_graph : graph P ≡ layout_graph l
  unfolding at
  same_graph =
      ap (λ v. factor_graph v (functions P) (arity P) (at P)) same_variables
      ∙ ap (λ f. factor_graph (length (domains_of l)) f (arity P) (at P)) same_functions
      ∙ ap (λ (scope : ℕ → List ℕ). factor_graph (length (domains_of l)) (length (scopes_of l)) (λ f. length (scope f)) (λ f p. get_or (scope f) p 0)) (fun_ext same_scope)
