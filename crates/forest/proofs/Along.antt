-- Keeping along an order, link by link; and along an order that a test gives. Assumes nothing.
use Rattle.std.proofs.Common.{◌≡◌, ℕ, ◌+◌, ◌<◌, Bool, true, false, eqb, ◌⊎◌, List, get_or, Decides, sym, refl, ap, ◌∙◌, subst, inl, inr, ⊎_elim, arith, below_more}
use mathlib.Core.Path.{fun_ext}
use Rattle.std.proofs.lemmas.Bool.{both_ways, cases_Bool, cases_eq, eq-eqb, ne_eqb, eqb-true, or_cases, or_left, or_right, and_parts, and_from, cond-true, cond-false}
use Rattle.std.proofs.lemmas.Bool.Decides.{Decides-below_or, Decides-eqb}
use Rattle.theory.specs.Graphs.{Graph, Uses, Joined}
use Rattle.theory.proofs.Sets.{Within}
use Rattle.theory.proofs.Walks.{joined_within, joined_sym, joined_trans, at_once, link_joins}
use Rattle.theory.proofs.Labels.{Labels, labels_alone, labels_join, same_label, labels_moved}
use Rattle.forest.specs.Along.{earlier, KeptAt}
use Rattle.forest.specs.Labelled.{relabel, Merges, Considered}

-- The test says that the number stands at some position below i.
pub stands : (order : List ℕ) (i n : ℕ) → Decides (earlier order i n) ((k : ℕ) × (k < i) × (get_or order k 0 ≡ n))
unfolding earlier
stands order i n = Decides-below_or (λ k. eqb (get_or order k 0) n) (λ k. get_or order k 0 ≡ n) (λ k. earlier order k n) (λ k. Decides-eqb (get_or order k 0) n) refl (λ _. refl) i

module _ (order : List ℕ) (i : ℕ) where
  here : earlier order (i + 1) (get_or order i 0) ≡ true
  here = (stands order (i + 1) _).1 (i, omega arith, refl)

  later : (j n : ℕ) → j < i → earlier order j n ≡ true → earlier order i n ≡ true
  later j n h e = let at = (stands order j n).0 e in (stands order i n).1 (at.0, omega (arith, at.1), at.2)

  step_on : (n : ℕ) → earlier order i n ≡ true → earlier order (i + 1) n ≡ true
  step_on n e = let at = (stands order i n).0 e in (stands order (i + 1) n).1 (at.0, omega (arith, at.1), at.2)

  -- what stands in one position more stands there, or stood before
  step_back : (n : ℕ) → earlier order (i + 1) n ≡ true → (n ≡ get_or order i 0) ⊎ (earlier order i n ≡ true)
  step_back n e =
      let at = (stands order (i + 1) n).0 e in
      ⊎_elim
      (λ (q : at.0 ≡ i). inl (sym at.2 ∙ ap (λ k. get_or order k 0) q))
      (λ (ne : at.0 ≡ i → ⊥). inr ((stands order i n).1 (at.0, omega (arith, at.1), at.2)))
      (cases_eq at.0 i)

-- Where the first i positions of the order are considered: the links kept, and the labels of the parts that they make.
pub record Upto (G : Graph) (order : List ℕ) (K : ℕ → Bool) (label : ℕ → ℕ) (i : ℕ) : Type 0 where
  pub labels : Labels G K label
  pub only : (n : ℕ) → K n ≡ true → (G.present n ≡ true) × (earlier order i n ≡ true)
  -- the ends of a link that was considered are in one part
  pub closed : (n : ℕ) → G.present n ≡ true → earlier order i n ≡ true → label (G.left n) ≡ label (G.right n)
  pub each : (j : ℕ) → j < i → KeptAt G order K j

pub upto_none : (G : Graph) (order : List ℕ) (K : ℕ → Bool) (label : ℕ → ℕ) → ((n : ℕ) → K n ≡ false) → ((a : ℕ) → label a ≡ a) → Upto G order K label 0
unfolding earlier
upto_none G order K label none alone = record {
  labels = subst (λ (f : ℕ → ℕ). Labels G K f) (sym (fun_ext alone)) (labels_alone (λ n u. both_ways (K n) (none n) u.chosen));
  only = λ n e. absurd (both_ways (K n) (none n) e);
  closed = λ n there e. absurd (both_ways false refl e);
  each = λ j h. absurd (omega arith);
}

module _ (G : Graph) (bounded : (m : ℕ) → G.present m ≡ true → m < G.links) (order : List ℕ) (K K' : ℕ → Bool) (label label' : ℕ → ℕ)
    (i : ℕ) (u : Upto G order K label i) where
  abbrev n : ℕ
  n = get_or order i 0

  skipped : (G.present n ≡ true → label (G.left n) ≡ label (G.right n)) → Upto G order K label (i + 1)
  skipped tied = record {
    labels = u.labels;
    only = λ m e. ((u.only m e).0, step_on order i m (u.only m e).1);
    closed = λ m there e. ⊎_elim
        (λ (q : m ≡ n). rw q (tied (rw q at there)))
        (λ (before : earlier order i m ≡ true). u.closed m there before)
        (step_back order i m e);
    each = below_more (KeptAt G order K) i u.each (λ there new. (
      λ e. absurd (both_ways (earlier order i n) new (u.only n e).1),
      λ apart. absurd (apart (joined_within (λ m v. and_from (K m) (earlier order i m) v.chosen (u.only m v.chosen).1)
          (labels_join (G.left n) (G.right n) u.labels (tied there)))),
    ));
  }

  module _ (s : Merges G n K K' label label') where
    differ : label (G.left n) ≡ label (G.right n) → ⊥
    differ e = ⊎_elim (λ p. omega (arith, s.under, p.0, p.1, e)) (λ p. omega (arith, s.under, p.0, p.1, e)) s.ends

    new : earlier order i n ≡ false
    new = ⊎_elim (λ e. absurd (differ (u.closed n s.there e))) (λ e. e) (cases_Bool (earlier order i n))

    kept_n : K' n ≡ true
    kept_n = s.kept n ∙ or_left (eqb n n) (K n) (eq-eqb n n refl)

    still : (m : ℕ) → K m ≡ true → K' m ≡ true
    still m e = s.kept m ∙ or_right (eqb m n) (K m) e

    either : (m : ℕ) → K' m ≡ true → (m ≡ n) ⊎ (K m ≡ true)
    either m e = ⊎_elim (λ q. inl (eqb-true m n q)) (λ k. inr k) (or_cases (eqb m n) (K m) (sym (s.kept m) ∙ e))

    -- what was considered before was kept then
    old : (m : ℕ) → earlier order i m ≡ true → K' m ≡ true → K m ≡ true
    old m before e = ⊎_elim (λ (q : m ≡ n). absurd (both_ways (earlier order i n) new (rw q at before))) (λ k. k) (either m e)

    uses_n : Uses G K' n
    uses_n = record { below = bounded n s.there; there = s.there; chosen = kept_n }

    within : Within G K K'
    within m v = still m v.chosen

    across : Joined G K' (label (G.left n)) (label (G.right n))
    across =
        joined_trans (joined_sym (joined_within within (u.labels.joins (G.left n))))
        (joined_trans (link_joins n uses_n) (joined_within within (u.labels.joins (G.right n))))

    root : (a x : ℕ) → label a ≡ x → label x ≡ x
    root a x e = subst (λ y. label y ≡ y) e (u.labels.settled a)

    over : Joined G K' s.high s.low
    over = ⊎_elim
        (λ p. joined_trans (at_once (sym p.1)) (joined_trans (joined_sym across) (at_once p.0)))
        (λ p. joined_trans (at_once (sym p.0)) (joined_trans across (at_once p.1)))
        s.ends

    abbrev to : ℕ → ℕ
    to = relabel s.low s.high

    meet : to (label (G.left n)) ≡ to (label (G.right n))
    meet =
        let down : to s.high ≡ s.low = cond-true _ _ _ (eq-eqb s.high s.high refl) in
        let stays : to s.low ≡ s.low = cond-false _ _ _ (ne_eqb s.low s.high (λ e. omega (arith, s.under))) in
        ⊎_elim (λ p. ap to p.0 ∙ stays ∙ sym down ∙ sym (ap to p.1)) (λ p. ap to p.0 ∙ down ∙ sym stays ∙ sym (ap to p.1)) s.ends

    same : (m : ℕ) → Uses G K' m → to (label (G.left m)) ≡ to (label (G.right m))
    same m v = ⊎_elim (λ (q : m ≡ n). rw q meet) (λ k. ap to (u.labels.same m (record { below = v.below; there = v.there; chosen = k }))) (either m v.chosen)

    merged_labels : Labels G K' (λ a. to (label a))
    merged_labels = ⊎_elim
        (λ p. labels_moved u.labels s.low s.high s.under (root (G.left n) s.low p.0) (root (G.right n) s.high p.1) within over same)
        (λ p. labels_moved u.labels s.low s.high s.under (root (G.right n) s.low p.1) (root (G.left n) s.high p.0) within over same)
        s.ends

    merged_each : (j : ℕ) → j < i → KeptAt G order K' j
    merged_each j h there first =
        let before : earlier order i (get_or order j 0) ≡ true = (stands order i _).1 (j, h, refl) in
        let was = u.each j h there first in (
          λ e walk. was.0 (old _ before e) (joined_within (λ m v.
              let in_both = and_parts (K' m) (earlier order j m) v.chosen in
              and_from (K m) (earlier order j m) (old m (later order i j m h in_both.1) in_both.0) in_both.1) walk),
          λ apart. still _ (was.1 (λ walk. apart (joined_within (λ m v.
              let in_both = and_parts (K m) (earlier order j m) v.chosen in
              and_from (K' m) (earlier order j m) (still m in_both.0) in_both.1) walk))),
        )

    merged : Upto G order K' (λ a. to (label a)) (i + 1)
    merged = record {
      labels = merged_labels;
      only = λ m e. ⊎_elim
          (λ (q : m ≡ n). rw q (s.there, here order i))
          (λ k. ((u.only m k).0, step_on order i m (u.only m k).1))
          (either m e);
      closed = λ m there e. ⊎_elim
          (λ (q : m ≡ n). rw q meet)
          (λ (before : earlier order i m ≡ true). ap to (u.closed m there before))
          (step_back order i m e);
      each = below_more (KeptAt G order K') i merged_each (λ there first. (
        λ _ walk. differ (same_label u.labels (joined_within (λ m v.
            let in_both = and_parts (K' m) (earlier order i m) v.chosen in
            old m in_both.1 in_both.0) walk)),
        λ _. kept_n,
      ));
    }

  -- one position more
  pub upto_more : Considered G n K K' label label' → Upto G order K' label' (i + 1)
  upto_more (inl s) = subst (λ (f : ℕ → ℕ). Upto G order K' f (i + 1)) (sym (fun_ext s.labels)) (merged s)
  upto_more (inr s) =
      subst (λ (f : ℕ → Bool). Upto G order f label' (i + 1)) (sym (fun_ext s.kept))
      (subst (λ (f : ℕ → ℕ). Upto G order K f (i + 1)) (sym (fun_ext s.labels)) (skipped s.closed))
