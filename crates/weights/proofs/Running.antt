-- A running best: the topmost of the values seen so far. Assumes nothing.
use Rattle.std.proofs.Common.{◌≡◌, ℕ, ◌+◌, ◌-◌, ◌<◌, ◌≤◌, Bool, true, false, if◌then◌else◌, List, sym, refl, ◌∙◌, subst, ap₂, ⊎_elim, arith}
use Rattle.std.proofs.lemmas.Bool.{cases_Bool, cases_lt, both_ways}
use Rattle.scale.specs.Rules.{Rules}
use Rattle.scale.specs.Laws.{Plain}
use Rattle.theory.specs.Joins.{Highest, Lowest}
use Rattle.theory.proofs.Extremes.{highest_unique, lowest_unique}
use Rattle.theory.proofs.Topmost.{Total, itself}
use Rattle.weights.specs.Swings.{SwingFrom}

-- `best` is the topmost, by leq, of the values of the numbers below n
pub record Leads {V E : Type 0} (leq : E → E → Bool) (means : V → E) (Fine : V → Type 0) (Value : ℕ → E → Type 0) (n : ℕ) (best : V) : Type 0 where
  pub attained : (k : ℕ) × (k < n) × Value k (means best)
  pub bound : (k : ℕ) (e : E) → k < n → Value k e → leq e (means best) ≡ true
  pub fine : Fine best

module _ {V E : Type 0} {leq : E → E → Bool} (O : Total leq) (means : V → E) (Fine : V → Type 0) (Value : ℕ → E → Type 0) where
  -- a value alone
  pub first : ((a b : E) → Value 0 a → Value 0 b → a ≡ b) → (best : V) → Value 0 (means best) → Fine best → Leads leq means Fine Value 1 best
  first one best is ok = record {
    attained = (0, omega arith, is);
    bound = λ k e h v. let here : k ≡ 0 = omega arith in subst (λ (a : E). leq e a ≡ true) (one e (means best) (subst (λ (n : ℕ). Value n e) here v) is) (itself leq O e);
    fine = ok;
  }

  module _ (n m : ℕ) (old new : V) (so_far : Leads leq means Fine Value n old) (more : Leads leq means Fine (λ k. Value (n + k)) m new) where
    -- the values of both are below what is above the two best
    above : (a : E) → leq (means old) a ≡ true → leq (means new) a ≡ true → (k : ℕ) (e : E) → k < n + m → Value k e → leq e a ≡ true
    above a before here k e h v =
        ⊎_elim
        (λ (lt : k < n). O.trans e (means old) a (so_far.bound k e lt v) before)
        (λ (le : n ≤ k).
        let at : k ≡ n + (k - n) = omega arith in
        O.trans e (means new) a (more.bound (k - n) e (omega arith) (subst (λ (i : ℕ). Value i e) at v)) here)
        (cases_lt k n)

    raised : leq (means old) (means new) ≡ true → Leads leq means Fine Value (n + m) new
    raised up =
        let (k, h, v) = more.attained in
        record { attained = (n + k, omega arith, v); bound = above (means new) up (itself leq O (means new)); fine = more.fine }

    held : leq (means old) (means new) ≡ false → Leads leq means Fine Value (n + m) old
    held low =
        let (k, h, v) = so_far.attained in
        let down : leq (means new) (means old) ≡ true = ⊎_elim (λ up. absurd (both_ways (leq (means old) (means new)) low up)) (λ down. down) (O.total (means old) (means new)) in
        record { attained = (k, omega arith, v); bound = above (means old) (itself leq O (means old)) down; fine = so_far.fine }

    -- the best of m more values where it is at least as high, and else the old one
    pub joined : (r : V) → r ≡ (if leq (means old) (means new) then new else old) → Leads leq means Fine Value (n + m) r
    joined r is =
        subst (Leads leq means Fine Value (n + m)) (sym is) (
        ⊎_elim (λ (up : leq (means old) (means new) ≡ true). rw up (raised up)) (λ (low : leq (means old) (means new) ≡ false). rw low (held low))
        (cases_Bool (leq (means old) (means new))))

-- one value more
pub next : {V E : Type 0} {leq : E → E → Bool} (O : Total leq) (means : V → E) (Fine : V → Type 0) (Value : ℕ → E → Type 0) (n : ℕ) → ((a b : E) → Value n a → Value n b → a ≡ b) →
    (old new : V) → Leads leq means Fine Value n old → Value n (means new) → Fine new → (r : V) → r ≡ (if leq (means old) (means new) then new else old) → Leads leq means Fine Value (n + 1) r
next {V} {E} {leq} O means Fine Value n one old new so_far is ok =
    let at : n ≡ n + 0 = omega arith in
    joined O means Fine Value n 1 old new so_far
    (first O means Fine (λ k. Value (n + k)) (subst (λ (i : ℕ). (a b : E) → Value i a → Value i b → a ≡ b) at one) new (subst (λ (i : ℕ). Value i (means new)) at is) ok)

-- the same values, read at the same places
pub read_at : {V E : Type 0} {leq : E → E → Bool} {means : V → E} {Fine : V → Type 0} (Value : ℕ → E → Type 0) (s t : ℕ → ℕ) (n : ℕ) (best : V) → ((k : ℕ) → k < n → s k ≡ t k) →
    Leads leq means Fine (λ k. Value (s k)) n best → Leads leq means Fine (λ k. Value (t k)) n best
read_at {means = means} Value s t n best same leads =
    let (k, h, v) = leads.attained in
    record {
      attained = (k, h, subst (λ (i : ℕ). Value i (means best)) (same k h) v);
      bound = λ k e h v. leads.bound k e h (subst (λ (i : ℕ). Value i e) (sym (same k h)) v);
      fine = leads.fine;
    }

-- the topmost of the values of a function, upward and downward
module _ {V E : Type 0} (R : Rules E) (means : V → E) (Fine : V → Type 0) (g : ℕ → E) (n : ℕ) (best : V) where
  pub highest_of : Leads R.leq means Fine (λ x e. g x ≡ e) n best → Highest R (λ x. x < n) g (means best)
  highest_of leads = record { attained = leads.attained; bound = λ x h. leads.bound x (g x) h refl }

  pub lowest_of : Leads (λ a b. R.leq b a) means Fine (λ x e. g x ≡ e) n best → Lowest R (λ x. x < n) g (means best)
  lowest_of leads = record { attained = leads.attained; bound = λ x h. leads.bound x (g x) h refl }

module _ {E : Type 0} (R : Rules E) (L : Plain R) (table : List ℕ) (values stride : ℕ) where
  -- the entries have one gap
  pub swing_one : (from : ℕ) (a b : E) → SwingFrom R table values stride from a → SwingFrom R table values stride from b → a ≡ b
  swing_one from a b s t =
      sym s.is
      ∙ ap₂ R.gap (highest_unique R L (λ x h. (h, refl)) (λ x h. h) s.highest t.highest) (lowest_unique R L (λ x h. h) (λ x h. h) s.lowest t.lowest)
      ∙ t.is
