-- Over the same kept links, messages, choices and plan are one. Assumes nothing.
use Rattle.std.proofs.Common.{◌≡◌, ℕ, ◌<◌, Bool, true, eqb, Some, Option, sym, ap, ◌∙◌, subst, ap₂, arith}
use Rattle.scale.specs.Rules.{Rules}
use Rattle.scale.specs.Laws.{Plain}
use Rattle.theory.specs.Joins.{when}
use Rattle.theory.specs.Problem.{Problem, Plan, Valid, Sound, variables, functions, size, at, position}
use Rattle.theory.specs.Cut.{IsCut}
use Rattle.theory.specs.Forest.{Hanging, WellHung, LowestRoots, above, is_root, hangs}
use Rattle.theory.specs.Messages.{Messages, tree_value, from_variables}
use Rattle.theory.proofs.Joins.{joins_cong}
use Rattle.theory.proofs.Extremes.{lowest_unique, highest_unique}
use Rattle.theory.proofs.Descent.{from_roots}
use Rattle.theory.proofs.Hangs.{root_test}
use Rattle.theory.proofs.Positions.{positions}
use Rattle.theory.proofs.OneHanging as once
use Rattle.theory.proofs.Unique.{same_q, same_r, same_tree_value}
use Rattle.rules.specs.Report.{Reaches, Takes, Chosen}

-- What a solve finds over given kept links.
pub record Found {E : Type 0} (R : Rules E) (P : Problem) (kept : ℕ → Bool) (y : Plan) : Type 0 where
  pub cut : ℕ → Plan → E
  pub is_cut : IsCut R P kept cut
  pub hanging : Hanging
  pub hung : WellHung P kept hanging
  pub lowest_roots : LowestRoots P kept hanging
  pub messages : Messages R P hanging cut
  pub takes : ℕ → ℕ → Plan
  pub taken : (f x : ℕ) → f < functions P → x < size P (above P hanging f) → Takes R P kept hanging cut messages f x (takes f x)
  pub chosen : Chosen R P kept hanging cut messages takes y

module _ {E : Type 0} (R : Rules E) (L : Plain R) (P : Problem) (sound : Sound P) (kept : ℕ → Bool) (y y' : Plan) (a : Found R P kept y) (b : Found R P kept y') where
  abbrev H : Hanging
  H = a.hanging

  abbrev H' : Hanging
  H' = b.hanging

  abbrev m : Messages R P H a.cut
  m = a.messages

  abbrev m' : Messages R P H' b.cut
  m' = b.messages

  pub root_same : (v : ℕ) → v < variables P → is_root H v ≡ is_root H' v
  root_same = once.root_same P sound kept H H' a.hung b.hung a.lowest_roots b.lowest_roots

  parent_same : (v : ℕ) → v < variables P → H.var_parent v ≡ H'.var_parent v
  parent_same = once.var_same P sound kept H H' a.hung b.hung a.lowest_roots b.lowest_roots

  pub above_same : (f : ℕ) → f < functions P → above P H f ≡ above P H' f
  above_same f k = ap (at P f) (once.fun_same P sound kept H H' a.hung b.hung a.lowest_roots b.lowest_roots f k)

  cut_same : (f : ℕ) (z : Plan) → f < functions P → Valid P z → a.cut f z ≡ b.cut f z
  cut_same f z k valid = lowest_unique R L (λ x ok. ok) (λ x ok. ok) (a.is_cut f z k valid) (b.is_cut f z k valid)

  up_same : (q : ℕ → ℕ → E) (f : ℕ) (z : Plan) → from_variables R P H q f z ≡ from_variables R P H' q f z
  up_same q f z = joins_cong R (variables P) (λ u k. ap (λ (o : Option ℕ). when R (hangs o f) (q u (z u))) (parent_same u k))

  value_same : (q : ℕ → ℕ → E) (f : ℕ) (z : Plan) → f < functions P → Valid P z → R.join (a.cut f z) (from_variables R P H q f z) ≡ R.join (b.cut f z) (from_variables R P H' q f z)
  value_same q f z k valid = ap₂ R.join (cut_same f z k valid) (up_same q f z)

  -- the messages of b answer the equations of a
  moved : Messages R P H a.cut
  moved = record {
    q = m'.q;
    r = m'.r;
    best = m'.best;
    variable = λ v x k fits. m'.variable v x k fits ∙ joins_cong R (functions P) (λ f i. ap (λ (u : ℕ). when R (eqb u v) (m'.r f x)) (sym (above_same f i)));
    function = λ f x k fits.
        let h = m'.function f x k (subst (λ (u : ℕ). x < size P u) (above_same f k) fits) in
        let (z, ok, is) = h.attained in record {
          attained = (z, (ok.0, ap z (above_same f k) ∙ ok.1), value_same m'.q f z k ok.0 ∙ is);
          bound = λ z ok. subst (λ (e : E). R.leq e (m'.r f x) ≡ true) (sym (value_same m'.q f z k ok.0)) (h.bound z (ok.0, ap z (sym (above_same f k)) ∙ ok.1));
        };
    root = λ v k e. m'.root v k (sym (root_same v k) ∙ e);
  }

  pub q_same : (v x : ℕ) → v < variables P → x < size P v → m.q v x ≡ m'.q v x
  unfolding moved
  q_same = same_q R L P sound kept H a.hung a.cut m moved

  pub r_same : (f x : ℕ) → f < functions P → x < size P (above P H f) → m.r f x ≡ m'.r f x
  unfolding moved
  r_same = same_r R L P sound kept H a.hung a.cut m moved

  best_same : (v : ℕ) → v < variables P → is_root H v ≡ true → m.best v ≡ m'.best v
  best_same v k e = highest_unique R L (λ x fits. (fits, q_same v x k fits)) (λ x fits. fits) (m.root v k e) (m'.root v k (sym (root_same v k) ∙ e))

  pub tree_same : tree_value R P H a.cut m ≡ tree_value R P H' b.cut m'
  unfolding moved
  tree_same =
      same_tree_value R L P sound kept H a.hung a.cut m moved
      ∙ joins_cong R (variables P) (λ v k. ap (λ (t : Bool). when R t (m'.best v)) (root_same v k))

  -- what is reached with a's messages is reached with b's, and the other way
  from_same : (f : ℕ) (z : Plan) → Valid P z → from_variables R P H m.q f z ≡ from_variables R P H m'.q f z
  from_same f z valid = joins_cong R (variables P) (λ u k. ap (when R (hangs (H.var_parent u) f)) (q_same u (z u) k (valid u k)))

  there : (f x : ℕ) (z : Plan) → f < functions P → x < size P (above P H f) → Reaches R P kept H a.cut m f x z → Reaches R P kept H' b.cut m' f x z
  there f x z k fits c = record {
    valid = c.valid;
    here = ap z (sym (above_same f k)) ∙ c.here;
    zeros = c.zeros;
    reached = sym (ap (R.join (a.cut f z)) (from_same f z c.valid) ∙ value_same m'.q f z k c.valid) ∙ c.reached ∙ r_same f x k fits;
  }

  back : (f x : ℕ) (z : Plan) → f < functions P → x < size P (above P H f) → Reaches R P kept H' b.cut m' f x z → Reaches R P kept H a.cut m f x z
  back f x z k fits c = record {
    valid = c.valid;
    here = ap z (above_same f k) ∙ c.here;
    zeros = c.zeros;
    reached = ap (R.join (a.cut f z)) (from_same f z c.valid) ∙ value_same m'.q f z k c.valid ∙ c.reached ∙ sym (r_same f x k fits);
  }

  module _ (f x : ℕ) (k : f < functions P) (fits : x < size P (above P H f)) where
    abbrev mine : Takes R P kept H a.cut m f x (a.takes f x)
    mine = a.taken f x k fits

    abbrev other : Takes R P kept H' b.cut m' f x (b.takes f x)
    other = b.taken f x k (subst (λ (u : ℕ). x < size P u) (above_same f k) fits)

    pub position_same : position P f (a.takes f x) ≡ position P f (b.takes f x)
    position_same =
        let le = mine.first (b.takes f x) (back f x (b.takes f x) k fits other.reaches) in
        let ge = other.first (a.takes f x) (there f x (a.takes f x) k fits mine.reaches) in
        omega arith

    takes_same : (v : ℕ) → H.var_parent v ≡ Some f → v < variables P → a.takes f x v ≡ b.takes f x v
    takes_same v e known =
        let (p, place, here, keeps) = a.hung.var_kept v f known e in
        subst (λ (u : ℕ). a.takes f x u ≡ b.takes f x u) here
        ((positions P sound f k).one (a.takes f x) (b.takes f x) mine.reaches.valid other.reaches.valid position_same p place)

  -- y is valid, and the two plans agree
  record Agreed (v : ℕ) : Type 0 where
    fits : y v < size P v
    same : y v ≡ y' v

  agreed : (v : ℕ) → v < variables P → Agreed v
  agreed = from_roots P sound kept H a.hung Agreed
      (λ v k e.
      let root = root_test (H.var_parent v) e in
      let root' = sym (root_same v k) ∙ root in
      let fits = a.chosen.fits v k root in
      let fits' = b.chosen.fits v k root' in
      let best = best_same v k root in
      let le = a.chosen.lowest v (y' v) k root fits' (q_same v (y' v) k fits' ∙ b.chosen.highest v k root' ∙ sym best) in
      let ge = b.chosen.lowest v (y v) k root' fits (sym (q_same v (y v) k fits) ∙ a.chosen.highest v k root ∙ best) in
      record { fits = fits; same = omega arith })
      (λ v f k e up.
      let known = a.hung.var_known v f k e in
      let own = a.chosen.below v f k e in
      let own' = b.chosen.below v f k (sym (parent_same v k) ∙ e) in
      let x = y (above P H f) in
      let x-same : x ≡ y' (above P H' f) = up.same ∙ ap y' (above_same f known) in
      record {
        fits = subst (λ (n : ℕ). n < size P v) (sym own) ((a.taken f x known up.fits).reaches.valid v k);
        same = own ∙ takes_same f x known up.fits v e k ∙ ap (λ (n : ℕ). b.takes f n v) x-same ∙ sym own';
      })

  pub plan_same : (v : ℕ) → v < variables P → y v ≡ y' v
  plan_same v k = (agreed v k).same
