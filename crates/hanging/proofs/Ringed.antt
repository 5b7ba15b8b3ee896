-- A kept link by which no node hangs closes a cycle of kept links. Assumes nothing.
use Rattle.std.proofs.Common.{◌≡◌, ℕ, zero, suc, ◌+◌, ◌*◌, ◌/◌, ◌%◌, ◌<◌, Bool, true, length, Some, None, is_some, sym, ap, ◌∙◌, subst, ⊎_elim, arith}
use Rattle.std.proofs.lemmas.Bool.{cases_order}
use Rattle.theory.specs.Graphs.{Uses, Joined, Cycle, along, back, stay, without}
use Rattle.theory.proofs.Sets.{without_within, uses_other}
use Rattle.theory.proofs.Walks.{at_once, joined_trans, joined_sym, joined_within, link_joins}
use Rattle.layout.specs.declared.layout.Layout.{Layout}
use Rattle.layout.specs.View.{domains_of}
use Rattle.forest.specs.FactorGraph.{layout_graph}
use Rattle.hanging.specs.declared.hung.Hung.{Hung}
use Rattle.hanging.specs.declared.node.Node.{Node}
use Rattle.hanging.specs.declared.node.Node.TheVariants as node
use Rattle.hanging.specs.Hung.{variable_at, function_at, place_of, hung_node}
use Rattle.hanging.specs.Kept.{number, Kept, Linked}
use Rattle.hanging.specs.Growing.{Stands, Listed}
use Rattle.hanging.proofs.Parts.{PartsHung, by_parent, placed}

-- A node stands at one position.
pub one_position : {s : Hung} → Listed s → (i j : ℕ) (b : Node) → Stands s i b → Stands s j b → i ≡ j
one_position listed i j b x y = ⊎_elim (λ e. e)
    (λ o. ⊎_elim
    (λ (lt : i < j). absurd (listed.once i j lt y.within (x.here ∙ sym y.here)))
    (λ (lt : j < i). absurd (listed.once j i lt x.within (y.here ∙ sym x.here))) o)
    (cases_order i j)

-- n is a link by which no node hangs.
module _ (l : Layout) (K : ℕ → Bool) {s : Hung} {i : ℕ} (parts : PartsHung l K s i) (n : ℕ) (kept : Kept l K n)
    (no_function : (function_at s (n / 4)).parent ≡ Some (n % 4) → ⊥)
    (no_variable : (variable_at s ((layout_graph l).left n)).parent ≡ Some (n / 4) → ⊥) where
  -- The other links join a to a root.
  record Rooted (a : ℕ) : Type 0 where
    root : ℕ
    hung : (variable_at s root).hung ≡ true
    top : (variable_at s root).parent ≡ None
    way : Joined (layout_graph l) (without n K) a root

  beyond : {a b : ℕ} → Joined (layout_graph l) (without n K) a b → Rooted b → Rooted a
  beyond j r = record { root = r.root; hung = r.hung; top = r.top; way = joined_trans j r.way }

  other : (m : ℕ) → Kept l K m → (m ≡ n → ⊥) → Uses (layout_graph l) (without n K) m
  other m k ne = uses_other K n m k ne

  from_variable : (v f : ℕ) → (variable_at s v).parent ≡ Some f → Linked l K v f → Rooted (length (domains_of l) + f) → Rooted v
  from_variable v f e k r =
      let ne : k.link ≡ n → ⊥ = λ same. no_variable (
      ap (λ w. (variable_at s w).parent) (sym (ap (λ m. (layout_graph l).left m) same) ∙ k.variable) ∙ e ∙ ap Some (sym k.function ∙ ap (λ m. m / 4) same)) in
      beyond (along k.link (other k.link k.kept ne) k.variable (at_once (ap (λ g. length (domains_of l) + g) k.function))) r

  from_function : (f p : ℕ) → (function_at s f).parent ≡ Some p → p < 4 → Kept l K (4 * f + p) → Rooted ((layout_graph l).left (4 * f + p)) → Rooted (length (domains_of l) + f)
  from_function f p e lt k r =
      let m = 4 * f + p in
      let quotient : m / 4 ≡ f = omega arith in
      let rest : m % 4 ≡ p = omega arith in
      let ne : m ≡ n → ⊥ = λ same. no_function (subst (λ x. (function_at s (x / 4)).parent ≡ Some (x % 4)) same (ap (λ g. (function_at s g).parent) quotient ∙ e ∙ ap Some (sym rest))) in
      beyond (back m (other m k ne) (ap (λ g. length (domains_of l) + g) quotient) stay) r

  -- Each hung node is joined to a root, by the position at which it stands.
  rooted : (k j : ℕ) → j < k → (b : Node) → Stands s j b → hung_node s b ≡ true → Rooted (number l b)
  rooted zero j h b st up = absurd (omega arith)
  rooted (suc k) j h (node.Variable v) st up = by_parent (variable_at s v).parent
      (λ none. record { root = v; hung = up; top = none; way = stay })
      (λ f some.
      let below = parts.sound.below v f up some in
      let at = below.before in
      let same = one_position parts.sound.listed at.second j (node.Variable v) at.other st in
      let lt : at.first < k = omega (arith, at.less, same, h) in
      let high : is_some (function_at s f).parent ≡ true = subst (λ b. hung_node s b ≡ true) at.one.here (parts.sound.listed.only at.first at.one.within) in
      from_variable v f some below.linked (rooted k at.first lt (node.Function f) at.one high))
  rooted (suc k) j h (node.Function f) st up =
      let p = place_of s f in
      let some = placed (function_at s f).parent up in
      let under = parts.sound.under f p some in
      let at = under.before in
      let same = one_position parts.sound.listed at.second j (node.Function f) at.other st in
      let lt : at.first < k = omega (arith, at.less, same, h) in
      let v = (layout_graph l).left (4 * f + p) in
      let high : (variable_at s v).hung ≡ true = subst (λ b. hung_node s b ≡ true) at.one.here (parts.sound.listed.only at.first at.one.within) in
      from_function f p some under.place under.kept (rooted k at.first lt (node.Variable v) at.one high)

  hung_rooted : (b : Node) → hung_node s b ≡ true → Rooted (number l b)
  hung_rooted b up = let at = parts.sound.listed.each b up in rooted (suc at.0) at.0 (omega arith) b at.1 up

  -- Two roots that kept links join are one.
  one_root : (u v : ℕ) → (variable_at s u).hung ≡ true → (variable_at s v).hung ≡ true → (variable_at s u).parent ≡ None → (variable_at s v).parent ≡ None →
      Joined (layout_graph l) K u v → u ≡ v
  one_root u v hu hv nu nv j = ⊎_elim (λ e. e)
      (λ o. ⊎_elim (λ (lt : u < v). absurd (parts.root v hv nv u lt (joined_sym j))) (λ (lt : v < u). absurd (parts.root u hu nu v lt j)) o)
      (cases_order u v)

  pub ringed : (variable_at s ((layout_graph l).left n)).hung ≡ true → is_some (function_at s (n / 4)).parent ≡ true → Cycle (layout_graph l) K
  ringed left right =
      let a = hung_rooted (node.Variable ((layout_graph l).left n)) left in
      let b = hung_rooted (node.Function (n / 4)) right in
      let full : (x y : ℕ) → Joined (layout_graph l) (without n K) x y → Joined (layout_graph l) K x y = λ x y j. joined_within (without_within K n) j in
      let across = joined_trans (joined_sym (full _ _ a.way)) (joined_trans (link_joins n kept) (full _ _ b.way)) in
      let same = one_root a.root b.root a.hung b.hung a.top b.top across in
      record { link = n; uses = kept; around = joined_trans a.way (joined_trans (at_once same) (joined_sym b.way)) }
