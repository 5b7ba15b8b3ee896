-- How hanging one node after another adds up. Assumes nothing.
use Rattle.std.proofs.Common.{◌≡◌, ℕ, ◌+◌, Bool, true, false, length, None, is_some, sym, refl, ap, ◌∙◌, subst, ⊎_elim, arith}
use Rattle.std.proofs.lemmas.Bool.{both_ways, cases_Bool}
use Rattle.theory.specs.Graphs.{Joined}
use Rattle.theory.proofs.Walks.{joined_trans, joined_sym, link_joins}
use Rattle.layout.specs.declared.layout.Layout.{Layout}
use Rattle.layout.specs.View.{domains_of}
use Rattle.forest.specs.FactorGraph.{layout_graph}
use Rattle.hanging.specs.declared.hung.Hung.{Hung}
use Rattle.hanging.specs.declared.node.Node.{Node}
use Rattle.hanging.specs.declared.node.Node.TheVariants as node
use Rattle.hanging.specs.Hung.{variable_at, hung_node}
use Rattle.hanging.specs.Kept.{Linked, Neighbours, Reaches}
use Rattle.hanging.specs.Growing.{Grows, Hangs}
use Rattle.hanging.proofs.Marking.{Marked}

module _ (l : Layout) (K : ℕ → Bool) where
  linked_joins : {v f : ℕ} → Linked l K v f → Reaches l K (node.Variable v) (node.Function f)
  linked_joins {v} {f} k =
      let G = layout_graph l in
      subst (λ a. Joined G K a (length (domains_of l) + f)) k.variable
      (subst (λ g. Joined G K (G.left k.link) (length (domains_of l) + g)) k.function (link_joins k.link k.kept))

  neighbours_join : (a b : Node) → Neighbours l K a b → Reaches l K a b
  neighbours_join (node.Variable v) (node.Function f) k = linked_joins k
  neighbours_join (node.Function f) (node.Variable v) k = joined_sym (linked_joins k)
  neighbours_join (node.Variable v) (node.Variable w) k = absurd k
  neighbours_join (node.Function f) (node.Function g) k = absurd k

  pub grows_none : (a : Node) (s : Hung) → Grows l K a s s
  grows_none a s = record {
    variables = λ v h. refl;
    functions = λ f h. refl;
    inner = λ v x y _. both_ways (variable_at s v).hung x y;
    around = λ b c x y k. absurd (both_ways (hung_node s b) x y);
    joined = λ b x y. absurd (both_ways (hung_node s b) x y);
    fewer = omega arith;
  }

  module _ {a : Node} {s t : Hung} (g : Grows l K a s t) where
    pub stays : (b : Node) → hung_node s b ≡ true → hung_node t b ≡ true
    stays (node.Variable v) h = ap (λ x. x.hung) (g.variables v h) ∙ h
    stays (node.Function f) h = ap (λ x. is_some x.parent) (g.functions f h) ∙ h

  module _ {a : Node} {s t u : Hung} (g : Grows l K a s t) (h : Grows l K a t u) where
    pub grows_then : Grows l K a s u
    grows_then = record {
      variables = λ v e. h.variables v (stays g (node.Variable v) e) ∙ g.variables v e;
      functions = λ f e. h.functions f (stays g (node.Function f) e) ∙ g.functions f e;
      inner = λ v x y z. ⊎_elim
          (λ (m : (variable_at t v).hung ≡ true). g.inner v x m (sym (ap (λ r. r.parent) (h.variables v m)) ∙ z))
          (λ m. h.inner v m y z)
          (cases_Bool (variable_at t v).hung);
      around = λ b c x y k. ⊎_elim (λ m. stays h c (g.around b c x m k)) (λ m. h.around b c m y k) (cases_Bool (hung_node t b));
      joined = λ b x y. ⊎_elim (λ m. g.joined b x m) (λ m. h.joined b m y) (cases_Bool (hung_node t b));
      fewer = omega (arith, g.fewer, h.fewer);
    }

  -- a neighbour c of a is hung, with all below it
  module _ (a c : Node) {s m t : Hung} (k : Neighbours l K a c) (marked : Marked s m c) (h : Hangs l K c m t)
      (child : (v : ℕ) → c ≡ node.Variable v → (variable_at m v).parent ≡ None → ⊥) where
    child_inner : (v : ℕ) → (variable_at s v).hung ≡ false → (variable_at t v).hung ≡ true → (variable_at t v).parent ≡ None → ⊥
    child_inner v x y z = ⊎_elim
        (λ (e : node.Variable v ≡ c).
        let up : (variable_at m v).hung ≡ true = subst (λ b. hung_node m b ≡ true) (sym e) marked.hung in
        child v (sym e) (sym (ap (λ r. r.parent) (h.grows.variables v up)) ∙ z))
        (λ (e : (variable_at m v).hung ≡ (variable_at s v).hung). h.grows.inner v (e ∙ x) y z)
        (marked.others (node.Variable v))

    child_around : (b d : Node) → hung_node s b ≡ false → hung_node t b ≡ true → Neighbours l K b d → hung_node t d ≡ true
    child_around b d x y j = ⊎_elim
        (λ (e : b ≡ c). h.around d (subst (λ n. Neighbours l K n d) e j))
        (λ (e : hung_node m b ≡ hung_node s b). h.grows.around b d (e ∙ x) y j)
        (marked.others b)

    child_joined : (b : Node) → hung_node s b ≡ false → hung_node t b ≡ true → Reaches l K a b
    child_joined b x y = ⊎_elim
        (λ (e : b ≡ c). subst (λ n. Reaches l K a n) (sym e) (neighbours_join a c k))
        (λ (e : hung_node m b ≡ hung_node s b). joined_trans (neighbours_join a c k) (h.grows.joined b (e ∙ x) y))
        (marked.others b)

    pub grows_child : Grows l K a s t
    grows_child = record {
      variables = λ v e. h.grows.variables v (ap (λ r. r.hung) (marked.variables v e) ∙ e) ∙ marked.variables v e;
      functions = λ f e. h.grows.functions f (ap (λ x. is_some x.parent) (marked.functions f e) ∙ e) ∙ marked.functions f e;
      inner = child_inner;
      around = child_around;
      joined = child_joined;
      fewer = omega (arith, h.grows.fewer, marked.fewer);
    }

    pub child_hung : hung_node t c ≡ true
    child_hung = stays h.grows c marked.hung
