-- Each rule keeps some links: they form no cycle, and each function has one. Assumes nothing.
use Rattle.std.proofs.Common.{◌≡◌, ℕ, ◌+◌, ◌*◌, ◌/◌, ◌%◌, ◌<◌, Bool, true, not, ◌&&◌, sym, refl, ap, ◌∙◌, subst, ap₂, arith}
use Rattle.std.proofs.lemmas.Bool.{ltb-true, and_parts, and_from, and_left}
use Rattle.scale.specs.Rules.{Rules}
use Rattle.scale.specs.Laws.{Plain}
use Rattle.theory.specs.Joins.{when}
use Rattle.theory.specs.Problem.{Problem, Sound, variables, functions, arity, at}
use Rattle.theory.specs.Graphs.{Graph, Uses, Joined, stay, along, back, Cycle, every, outside}
use Rattle.theory.specs.Keeping.{before, Keeps}
use Rattle.theory.specs.Links.{link, is_link, graph}
use Rattle.theory.specs.Cut.{Weighs}
use Rattle.theory.specs.KeptBy.{Rule, straight, bounded, KeptBy, Straight}
use Rattle.theory.specs.Bounded.{Bounded}
use Rattle.theory.proofs.Walks.{joined_within, cycle_within}
use Rattle.theory.proofs.Orders.{before_order}
use Rattle.theory.proofs.Exists.{chosen, chosen_kept}
use Rattle.theory.proofs.Kept.{kept_clears, kept_joins}
use Rattle.theory.proofs.Weighed.{graph_whole}
use Rattle.theory.proofs.LinkNumbers.{link_there, link_known}
use Rattle.theory.proofs.TablesExist.{some_weights}

module _ {E : Type 0} (R : Rules E) (L : Plain R) (P : Problem) (sound : Sound P) where
  abbrev G : Graph
  G = graph P

  -- the weights and the kept links of a bounded solve
  weight : ℕ → E
  weight n = when R (is_link P n) ((some_weights R P sound L).0 n)

  kept : ℕ → Bool
  kept n = is_link P n && chosen G (before R.leq weight) (graph_whole P sound) (before_order L weight) n

  keeps : Keeps G R.leq weight kept
  unfolding kept
  keeps n below there =
      let K = chosen G (before R.leq weight) (graph_whole P sound) (before_order L weight) in
      let old = chosen_kept G (before R.leq weight) (graph_whole P sound) (before_order L weight) n below there in (
        λ e j. old.0 (and_parts (is_link P n) (K n) e).1 (joined_within (λ m u.
            let parts = and_parts (is_link P m && K m) (before R.leq weight m n) u.chosen in
            and_from (K m) (before R.leq weight m n) (and_parts (is_link P m) (K m) parts.0).1 parts.1) j),
        λ apart. and_from (is_link P n) (K n) there (old.1 (λ j. apart (joined_within (λ m u.
            let parts = and_parts (K m) (before R.leq weight m n) u.chosen in
            and_from (is_link P m && K m) (before R.leq weight m n) (and_from (is_link P m) (K m) u.there parts.0) parts.1) j))),
      )

  pub some_bounded : (w : ℕ → E) × (k : ℕ → Bool) × Bounded R P w k
  unfolding kept weight
  some_bounded = (
    weight,
    kept,
    record {
      weights = λ f p k place. subst (λ (e : E). Weighs R P f p e) (sym (ap (λ (b : Bool). when R b ((some_weights R P sound L).0 (link f p))) (link_there P sound f p k place))) ((some_weights R P sound L).1 f p k place);
      keeps = keeps;
      unweighed = λ n none. ap (λ (b : Bool). when R b ((some_weights R P sound L).0 n)) none;
      unkept = λ n none. and_left (is_link P n) _ none;
    },
  )

  pub some_straight : (Cycle G every → ⊥) → (w : ℕ → E) × (k : ℕ → Bool) × Straight R P w k
  some_straight none = (λ n. R.neutral, is_link P, record { no_cycle = none; all_kept = λ n. refl; unweighed = λ n. refl })

  -- they form no cycle
  pub kept_acyclic : (rule : Rule) (w : ℕ → E) (k : ℕ → Bool) → KeptBy R P w k rule → Cycle G k → ⊥
  kept_acyclic straight w k s c = s.no_cycle (cycle_within k every (λ n u. refl) c)
  kept_acyclic bounded w k b c =
      kept_clears (graph_whole P sound) (before_order L w) k b.keeps
      (cycle_within k (outside (outside k)) (λ n u. ap (λ (t : Bool). not (not t)) u.chosen) c)

  -- a walk from a function begins with a link of it
  first_step : (k : ℕ → Bool) (f : ℕ) {a b : ℕ} → Joined G k a b → a ≡ variables P + f → b < variables P → (p : ℕ) × (p < arity P f) × (k (link f p) ≡ true)
  first_step k f stay e low = absurd (omega arith)
  first_step k f (along n u at_a j) e low =
      let place = ltb-true (n % 4) (arity P (n / 4)) u.there in
      let v = sound.known (n / 4) (n % 4) (link_known P n u.there) place in
      absurd (omega arith)
  first_step k f (back n u at_a j) e low =
      let own : n / 4 ≡ f = omega arith in
      let number : 4 * f + n % 4 ≡ n = omega arith in
      (n % 4, subst (λ (g : ℕ). n % 4 < arity P g) own (ltb-true (n % 4) (arity P (n / 4)) u.there), ap k number ∙ u.chosen)

  pub kept_each : (rule : Rule) (w : ℕ → E) (k : ℕ → Bool) → KeptBy R P w k rule → (f : ℕ) → f < functions P → (p : ℕ) × (p < arity P f) × (k (link f p) ≡ true)
  kept_each straight w k s f known = (0, sound.some_place f known, s.all_kept (link f 0) ∙ link_there P sound f 0 known (sound.some_place f known))
  kept_each bounded w k b f known =
      let place = sound.some_place f known in
      let own : (4 * f + 0) / 4 ≡ f = omega arith in
      let here : (4 * f + 0) % 4 ≡ 0 = omega arith in
      let u : Uses G every (link f 0) = record { below = omega arith; there = link_there P sound f 0 known place; chosen = refl } in
      let walk : Joined G every (variables P + f) (G.left (link f 0)) = back (link f 0) u (ap (λ (g : ℕ). variables P + g) own) stay in
      first_step k f ((kept_joins (graph_whole P sound) (before_order L w) k b.keeps (variables P + f) (G.left (link f 0))).0 walk) refl
      (subst (λ (v : ℕ). v < variables P) (sym (ap₂ (at P) own here)) (sound.known f 0 known place))
