-- Problems with the same domains and scopes have the same factor graph. Assumes nothing.
use Rattle.std.proofs.Common.{◌≡◌, ℕ, zero, suc, List, [], ◌∷◌, map, length, get_or, sym, refl, ap, ap₂, ◌∙◌}
use mathlib.Core.Path.{fun_ext}
use Rattle.std.proofs.lemmas.List.{length-map}
use Rattle.theory.specs.Graphs.{Graph}
use Rattle.theory.specs.Links.{graph, factor_graph}
use Rattle.theory.specs.Problem.{Problem, Function, variables, scope_of, arity, at}
use Rattle.file.specs.Spelling.{Agree}

abbrev scopes : Problem → List (List ℕ)
scopes P = map (λ (f : Function). f.scope) P.tables

-- the factor graph of a list of domains and a list of scopes
abbrev graph_by : List ℕ → List (List ℕ) → Graph
graph_by domains scopes = factor_graph (length domains) (length scopes) (λ f. length (get_or scopes f [])) (λ f p. get_or (get_or scopes f []) p 0)

scope_at : (fs : List Function) (f : ℕ) → (get_or fs f (record { scope = []; words = [] })).scope ≡ get_or (map (λ (g : Function). g.scope) fs) f []
scope_at [] f = refl
scope_at (g ∷ fs) zero = refl
scope_at (g ∷ fs) (suc f) = scope_at fs f

same_scope : (P : Problem) (f : ℕ) → scope_of P f ≡ get_or (scopes P) f []
unfolding scope_of
same_scope P f = scope_at P.tables f

by_scopes : (P : Problem) → graph P ≡ graph_by P.domains (scopes P)
unfolding at
by_scopes P =
    ap (λ n. factor_graph (variables P) n (arity P) (at P)) (sym (length-map P.tables (λ (f : Function). f.scope)))
    ∙ ap (λ (scope : ℕ → List ℕ). factor_graph (variables P) (length (scopes P)) (λ f. length (scope f)) (λ f p. get_or (scope f) p 0)) (fun_ext (same_scope P))

pub one_graph : {P Q : Problem} → Agree P Q → graph P ≡ graph Q
one_graph {P} {Q} agree = by_scopes P ∙ ap₂ graph_by agree.domains agree.scopes ∙ sym (by_scopes Q)
