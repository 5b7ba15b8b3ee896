-- Two scales ranked one after the other keep the laws, if the first is strict. Assumes nothing.
use Rattle.std.specs.Prelude.{◌≡◌, Bool, true, false, ◌⊎◌, ◌≢◌, refl}
use Rattle.std.proofs.Common.{sym, ap, ◌∙◌}
use Rattle.std.proofs.Math.Logic.{inl, inr, ⊎_elim}
use Rattle.std.proofs.lemmas.Bool.{cases_Bool, both_ways}
use Rattle.scale.specs.Laws.{PlainLaws, Strictness}
use Rattle.scale.specs.Lex.{lex, both}

-- what the laws of one scale give
module _ {X : Type 0} {leq : X → X → Bool} {join : X → X → X} {neutral : X} (l : PlainLaws leq join neutral) where
  pub leq_refl : (a : X) → leq a a ≡ true
  leq_refl a = ⊎_elim (λ e. e) (λ e. e) (l.total a a)

  -- what is not at most is at least
  pub other_way : (a b : X) → leq a b ≡ false → leq b a ≡ true
  other_way a b h = ⊎_elim (λ e. absurd (both_ways (leq a b) h e)) (λ e. e) (l.total a b)

  pub not_true : {b : Bool} → (b ≢ true) → b ≡ false
  not_true {b} h = ⊎_elim (λ e. absurd (h e)) (λ e. e) (cases_Bool b)

  pub lt_le : (a b c : X) → leq b a ≡ false → leq b c ≡ true → leq c a ≡ false
  lt_le a b c h k = not_true (λ e. both_ways (leq b a) h (l.trans b c a k e))

  pub le_lt : (a b c : X) → leq a b ≡ true → leq c b ≡ false → leq c a ≡ false
  le_lt a b c h k = not_true (λ e. both_ways (leq c b) k (l.trans c a b e h))

pub pair_same : {X Y : Type 0} (a b : X × Y) → a.0 ≡ b.0 → a.1 ≡ b.1 → a ≡ b
pair_same a b p q = ap (λ x. (x, a.1)) p ∙ ap (λ y. (b.0, y)) q

module _ {X Y : Type 0} {leqX : X → X → Bool} {joinX : X → X → X} {nX : X} {leqY : Y → Y → Bool} {joinY : Y → Y → Y} {nY : Y} (lX : PlainLaws leqX joinX nX) (strict : Strictness leqX joinX) (lY : PlainLaws leqY joinY nY) where
  pub Upto : X × Y → X × Y → Type 0
  Upto a b = (leqX b.0 a.0 ≡ false) ⊎ ((a.0 ≡ b.0) × (leqY a.1 b.1 ≡ true))

  pub Past : X × Y → X × Y → Type 0
  Past a b = (leqX a.0 b.0 ≡ false) ⊎ ((a.0 ≡ b.0) × (leqY a.1 b.1 ≡ false))

  pub lex_in : (a b : X × Y) → lex leqX leqY a b ≡ true → Upto a b
  unfolding Upto
  lex_in a b h =
      ⊎_elim
      (λ p. ⊎_elim (λ q. inr (lX.antisym _ _ q p, rw (p, q) at h)) (λ q. absurd (both_ways true (sym (rw q at (rw p at h))) refl)) (cases_Bool (leqX a.0 b.0)))
      (λ p. inl p)
      (cases_Bool (leqX b.0 a.0))

  pub lex_out : (a b : X × Y) → Upto a b → lex leqX leqY a b ≡ true
  unfolding Upto
  lex_out a b h =
      ⊎_elim
      (λ p. rw p)
      (λ e. let p : leqX a.0 b.0 ≡ true = rw e.0 (leq_refl lX b.0) in let q : leqX b.0 a.0 ≡ true = rw e.0 (leq_refl lX b.0) in rw (q, p) e.1)
      h

  pub lex_not : (a b : X × Y) → lex leqX leqY a b ≡ false → Past a b
  unfolding Past
  lex_not a b h =
      ⊎_elim
      (λ p. ⊎_elim (λ q. inr (lX.antisym _ _ q p, rw (p, q) at h)) (λ q. inl q) (cases_Bool (leqX a.0 b.0)))
      (λ p. absurd (both_ways true (rw p at h) refl))
      (cases_Bool (leqX b.0 a.0))

  -- no higher in either part
  pub below_or_same : (a b : X × Y) → leqX a.0 b.0 ≡ true → leqY a.1 b.1 ≡ true → lex leqX leqY a b ≡ true
  unfolding Upto
  below_or_same a b h k =
      ⊎_elim
      (λ p. lex_out a b (inr (lX.antisym _ _ h p, k)))
      (λ p. lex_out a b (inl p))
      (cases_Bool (leqX b.0 a.0))

  lex_other : (a b : X × Y) → lex leqX leqY a b ≡ false → lex leqX leqY b a ≡ true
  unfolding Past Upto
  lex_other a b h = ⊎_elim (λ p. lex_out b a (inl p)) (λ e. lex_out b a (inr (sym e.0, other_way lY _ _ e.1))) (lex_not a b h)

  lex_total : (a b : X × Y) → (lex leqX leqY a b ≡ true) ⊎ (lex leqX leqY b a ≡ true)
  lex_total a b = ⊎_elim inl (λ h. inr (lex_other a b h)) (cases_Bool (lex leqX leqY a b))

  lex_trans : (a b c : X × Y) → lex leqX leqY a b ≡ true → lex leqX leqY b c ≡ true → lex leqX leqY a c ≡ true
  unfolding Upto
  lex_trans a b c h k =
      ⊎_elim
      (λ p. ⊎_elim (λ q. lex_out a c (inl (lt_le lX a.0 b.0 c.0 p (other_way lX _ _ q)))) (λ e. lex_out a c (inl (rw e.0 at p))) (lex_in b c k))
      (λ d. ⊎_elim (λ q. lex_out a c (inl (rw d.0 q))) (λ e. lex_out a c (inr (d.0 ∙ e.0, lY.trans _ _ _ d.1 e.1))) (lex_in b c k))
      (lex_in a b h)

  lex_antisym : (a b : X × Y) → lex leqX leqY a b ≡ true → lex leqX leqY b a ≡ true → a ≡ b
  unfolding Upto
  lex_antisym a b h k =
      ⊎_elim
      (λ p. ⊎_elim (λ q. absurd (both_ways (leqX a.0 b.0) q (other_way lX _ _ p))) (λ e. absurd (both_ways (leqX b.0 a.0) p (rw e.0 (leq_refl lX a.0)))) (lex_in b a k))
      (λ d. ⊎_elim (λ q. absurd (both_ways (leqX a.0 b.0) q (rw d.0 (leq_refl lX b.0)))) (λ e. pair_same a b d.0 (lY.antisym _ _ d.1 e.1)) (lex_in b a k))
      (lex_in a b h)

  lex_mono : (b a c : X × Y) → lex leqX leqY a b ≡ true → lex leqX leqY (both joinX joinY a c) (both joinX joinY b c) ≡ true
  unfolding Upto
  lex_mono b a c h =
      ⊎_elim
      (λ p. lex_out (both joinX joinY a c) (both joinX joinY b c) (inl (strict _ _ _ p)))
      (λ e. lex_out (both joinX joinY a c) (both joinX joinY b c) (inr (ap (λ x. joinX x c.0) e.0, lY.mono _ _ _ e.1)))
      (lex_in a b h)

  pub lex_laws : PlainLaws (lex leqX leqY) (both joinX joinY) (nX, nY)
  lex_laws = record {
    total = lex_total;
    trans = lex_trans;
    antisym = lex_antisym;
    comm = λ a b. pair_same _ _ (lX.comm a.0 b.0) (lY.comm a.1 b.1);
    assoc = λ a b c. pair_same _ _ (lX.assoc a.0 b.0 c.0) (lY.assoc a.1 b.1 c.1);
    unit = λ a. pair_same _ _ (lX.unit a.0) (lY.unit a.1);
    mono = lex_mono;
  }
