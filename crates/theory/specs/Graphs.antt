-- Graphs of numbered nodes and numbered links, and what a set of links joins. A set of links is a test of their numbers.
-- Assumes nothing.
use Rattle.std.specs.Prelude.{◌≡◌, ℕ, ◌<◌, Bool, true, not, ◌&&◌, ◌↔◌, ◌==◌}
use Rattle.scale.specs.Rules.{Rules}
use Rattle.theory.specs.Joins.{joins, when, count_below}

pub record Graph : Type 0 where
  pub nodes : ℕ
  -- the links are numbered below this; not every number has a link
  pub links : ℕ
  pub present : ℕ → Bool
  pub left : ℕ → ℕ
  pub right : ℕ → ℕ

-- The ends of present links are nodes.
pub record Whole (G : Graph) : Type 0 where
  pub left_below : (n : ℕ) → n < G.links → G.present n ≡ true → G.left n < G.nodes
  pub right_below : (n : ℕ) → n < G.links → G.present n ≡ true → G.right n < G.nodes

-- n is a present link of the set S.
pub record Uses (G : Graph) (S : ℕ → Bool) (n : ℕ) : Type 0 where
  pub below : n < G.links
  pub there : G.present n ≡ true
  pub chosen : S n ≡ true

-- A walk leads from a to b along present links of S, each in either direction.
pub data Joined (G : Graph) (S : ℕ → Bool) : ℕ → ℕ → Type 0 where
  stay : {a : ℕ} → Joined G S a a
  along : {a b : ℕ} (n : ℕ) → Uses G S n → G.left n ≡ a → Joined G S (G.right n) b → Joined G S a b
  back : {a b : ℕ} (n : ℕ) → Uses G S n → G.right n ≡ a → Joined G S (G.left n) b → Joined G S a b

-- The sets: every link; the links outside S; the links of S other than m.
abbrev pub every : ℕ → Bool
every n = true

abbrev pub outside : (ℕ → Bool) → ℕ → Bool
outside S n = not (S n)

abbrev pub without : ℕ → (ℕ → Bool) → ℕ → Bool
without m S n = S n && not (n == m)

-- Some present link of S has ends that the other links of S join.
pub record Cycle (G : Graph) (S : ℕ → Bool) : Type 0 where
  pub link : ℕ
  pub uses : Uses G S link
  pub around : Joined G (without link S) (G.left link) (G.right link)

-- The present links outside C form no cycle.
abbrev pub Clears : Graph → (ℕ → Bool) → Type 0
Clears G C = Cycle G (outside C) → ⊥

-- The weight of a set of links: the join of `w n` over the present links n of S, in the order of their numbers; neutral if there are none.
abbrev pub set_weight : {E : Type 0} → Rules E → Graph → (ℕ → E) → (ℕ → Bool) → E
set_weight R G w S = joins R G.links (λ n. when R (G.present n && S n) (w n))

-- how many present links S has
abbrev pub link_count : Graph → (ℕ → Bool) → ℕ
link_count G S = count_below (λ n. G.present n && S n) G.links

-- The graph has this many connected parts: each has one lowest node, which is joined to no lower one.
pub record Parts (G : Graph) (parts : ℕ) : Type 0 where
  pub lowest : ℕ → Bool
  pub told : (a : ℕ) → a < G.nodes → (lowest a ≡ true) ↔ ((b : ℕ) → b < a → Joined G every a b → ⊥)
  pub counted : count_below lowest G.nodes ≡ parts
