-- The connected parts of a set of links as labels: each node has the number of the lowest node of its part. The nodes
-- that are their own label, the roots, are as many as the parts. Assumes nothing.
use Rattle.std.proofs.Common.{◌≡◌, ℕ, ◌+◌, ◌<◌, ◌≤◌, Bool, cond, eqb, ◌⊎◌, sym, refl, ap, ◌∙◌, inl, inr, arith}
use Rattle.std.proofs.lemmas.Bool.{cases_eq, cases_order, eq-eqb, ne_eqb, eqb-true, cond-true, cond-false, cond_both}
use Rattle.std.proofs.lemmas.Bool.Decides.{nat_tests}
use Rattle.theory.specs.Graphs.{Graph, Whole, Uses, Joined, stay, along, back, without}
use Rattle.theory.proofs.Tally.{tally_below}
use Rattle.theory.proofs.Sets.{Within, without_within, uses_other}
use Rattle.theory.proofs.Walks.{at_once, joined_trans, joined_sym, joined_within, link_joins}
use Rattle.theory.proofs.Counts.{below_same, below_out, below_all, below_more}

-- `label` names the parts that S makes, each by its lowest node.
pub record Labels (G : Graph) (S : ℕ → Bool) (label : ℕ → ℕ) : Type 0 where
  pub low : (a : ℕ) → label a ≤ a
  pub settled : (a : ℕ) → label (label a) ≡ label a
  pub joins : (a : ℕ) → Joined G S a (label a)
  pub same : (n : ℕ) → Uses G S n → label (G.left n) ≡ label (G.right n)

abbrev pub is_root : (ℕ → ℕ) → ℕ → Bool
is_root label a = eqb (label a) a

abbrev pub roots : Graph → (ℕ → ℕ) → ℕ
roots G label = tally_below (is_root label) G.nodes

-- Two nodes have one label exactly if they are joined.
pub same_label : {G : Graph} {S : ℕ → Bool} {label : ℕ → ℕ} {a b : ℕ} → Labels G S label → Joined G S a b → label a ≡ label b
same_label l stay = refl
same_label {label} l (along n u e j) = ap label (sym e) ∙ l.same n u ∙ same_label l j
same_label {label} l (back n u e j) = ap label (sym e) ∙ sym (l.same n u) ∙ same_label l j

pub labels_join : {G : Graph} {S : ℕ → Bool} {label : ℕ → ℕ} (a b : ℕ) → Labels G S label → label a ≡ label b → Joined G S a b
labels_join a b l e = joined_trans (l.joins a) (joined_trans (at_once e) (joined_sym (l.joins b)))

pub decide_joined : {G : Graph} {S : ℕ → Bool} {label : ℕ → ℕ} (a b : ℕ) → Labels G S label → Joined G S a b ⊎ (Joined G S a b → ⊥)
decide_joined {label} a b l = elim (cases_eq (label a) (label b)) [
  | inl e ↦ inl (labels_join a b l e)
  | inr ne ↦ inr (λ j. ne (same_label l j))
]

-- Where T joins all that S joins, it has no more parts.
pub fewer_roots : {G : Graph} {S T : ℕ → Bool} {fine coarse : ℕ → ℕ} → Labels G S fine → Labels G T coarse →
    ((a b : ℕ) → Joined G S a b → Joined G T a b) → roots G coarse ≤ roots G fine
fewer_roots {G} {fine} {coarse} f c over = below_more (is_root coarse) (is_root fine) G.nodes (λ a h e. eq-eqb (fine a) a (still a (eqb-true (coarse a) a e)))
  where
    still : (a : ℕ) → coarse a ≡ a → fine a ≡ a
    still a e =
        let one : coarse a ≡ coarse (fine a) = same_label c (over a (fine a) (f.joins a)) in
        omega (arith, c.low (fine a), f.low a)

-- Each node alone.
pub labels_alone : {G : Graph} {S : ℕ → Bool} → ((n : ℕ) → Uses G S n → ⊥) → Labels G S (λ a. a)
labels_alone none = record { low = λ a. omega arith; settled = λ a. refl; joins = λ a. stay; same = λ n u. absurd (none n u) }

pub roots_alone : (G : Graph) → roots G (λ a. a) ≡ G.nodes
roots_alone G = below_all (is_root (λ a. a)) G.nodes (λ a. eq-eqb a a refl)

-- The part of the root hi goes over to the root lo.
abbrev moved : ℕ → ℕ → ℕ → ℕ
moved lo hi x = cond (eqb x hi) lo x

moved_hi : (lo hi : ℕ) → moved lo hi hi ≡ lo
moved_hi lo hi = cond-true _ _ _ (eq-eqb hi hi refl)

moved_other : (lo hi x : ℕ) → (x ≡ hi → ⊥) → moved lo hi x ≡ x
moved_other lo hi x ne = cond-false _ _ _ (ne_eqb x hi ne)

module _ {G : Graph} {S : ℕ → Bool} {label : ℕ → ℕ} (l : Labels G S label) (lo hi : ℕ)
    (under : lo < hi) (lo-root : label lo ≡ lo) (hi-root : label hi ≡ hi) where
  pub labels_moved : {T : ℕ → Bool} → Within G S T → Joined G T hi lo →
      ((n : ℕ) → Uses G T n → moved lo hi (label (G.left n)) ≡ moved lo hi (label (G.right n))) →
      Labels G T (λ a. moved lo hi (label a))
  labels_moved {T} sub over same = record {
    low = λ a. let h = l.low a in grind (arith, nat_tests);
    settled = λ a. elim (cases_eq (label a) hi) [
      | inl e ↦ rw (e, moved_hi lo hi, lo-root) (moved_other lo hi lo (λ q. omega arith))
      | inr ne ↦ rw (moved_other lo hi (label a) ne, l.settled a) (moved_other lo hi (label a) ne)
    ];
    joins = λ a. cond_both (eqb (label a) hi) lo (label a) (λ x. Joined G T a x)
        (λ e. joined_trans (joined_within sub (l.joins a)) (joined_trans (at_once (eqb-true (label a) hi e)) over))
        (λ _. joined_within sub (l.joins a));
    same = same;
  }

  roots_moved : hi < G.nodes → roots G label ≡ roots G (λ a. moved lo hi (label a)) + 1
  roots_moved h = below_out (is_root label) hi G.nodes h (eq-eqb _ _ hi-root) ∙ ap (λ k. k + 1) (below_same _ _ G.nodes (λ a _. each a))
    where
      each : (a : ℕ) → without hi (is_root label) a ≡ is_root (λ b. moved lo hi (label b)) a
      each a = let h = l.low a in grind (arith, nat_tests)

-- A link whose ends the others do not join makes one part of two.
pub merge : {G : Graph} {S : ℕ → Bool} {label : ℕ → ℕ} (m : ℕ) → Whole G → Uses G S m → Labels G (without m S) label →
    (Joined G (without m S) (G.left m) (G.right m) → ⊥) →
    (next : ℕ → ℕ) × Labels G S next × (roots G label ≡ roots G next + 1)
merge {G} {S} {label} m whole u l apart = elim (cases_order x y) [
  | inl e ↦ absurd (apart (labels_join (G.left m) (G.right m) l e))
  | inr (inl h) ↦
      let meet = moved_other x y x (λ q. omega arith) ∙ sym (moved_hi x y) in
      (_, labels_moved l x y h (l.settled _) (l.settled _) sub (joined_sym across) (same x y meet), roots_moved l x y h (l.settled _) (l.settled _) (omega (arith, l.low (G.right m), whole.right_below m u.below u.there)))
  | inr (inr h) ↦
      let meet = moved_hi y x ∙ sym (moved_other y x y (λ q. omega arith)) in
      (_, labels_moved l y x h (l.settled _) (l.settled _) sub across (same y x meet), roots_moved l y x h (l.settled _) (l.settled _) (omega (arith, l.low (G.left m), whole.left_below m u.below u.there)))
]
  where
    x : ℕ
    x = label (G.left m)

    y : ℕ
    y = label (G.right m)

    sub : Within G (without m S) S
    sub = without_within S m

    across : Joined G S x y
    across = joined_trans (joined_sym (joined_within sub (l.joins (G.left m)))) (joined_trans (link_joins m u) (joined_within sub (l.joins (G.right m))))

    same : (lo hi : ℕ) → moved lo hi x ≡ moved lo hi y → (n : ℕ) → Uses G S n → moved lo hi (label (G.left n)) ≡ moved lo hi (label (G.right n))
    same lo hi e n v = elim (cases_eq n m) [
      | inl q ↦ rw q e
      | inr ne ↦ ap (moved lo hi) (l.same n (uses_other S m n v ne))
    ]
