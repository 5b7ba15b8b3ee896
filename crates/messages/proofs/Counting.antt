-- How many entries a message is joined of: at most as many as there are functions. Assumes nothing.
use Rattle.std.proofs.Common.{◌≡◌, ℕ, ◌+◌, ◌<◌, ◌≤◌, Bool, true, eqb, Some, None, sym, refl, ap, ◌∙◌, arith}
use Rattle.std.proofs.lemmas.Bool.{eq-eqb, leb-true}
use Rattle.theory.specs.Problem.{Problem, Sound, put, size, variables, functions}
use Rattle.theory.specs.Forest.{Hanging, WellHung, above, hangs, is_root}
use Rattle.theory.specs.Messages.{Messages, tree_value, from_variables}
use Rattle.theory.proofs.Descent.{above_known, from_roots}
use Rattle.theory.proofs.Hangs.{hangs_test, root_test}
use Rattle.theory.proofs.MessagesExist.{some_messages}
use Rattle.theory.proofs.PickedPlan.{picked_plan}
use Rattle.theory.proofs.Plans.{put_here, put_valid, nothing, nothing_valid}
use Rattle.theory.proofs.TreeValue.{score_reached}
use Rattle.joining.specs.Counts.{counts}
use Rattle.joining.proofs.Counting.{counts_laws, joins_ones, passing_member}
use Rattle.messages.specs.Counts.{one_entry}

module _ (P : Problem) (sound : Sound P) (kept : ℕ → Bool) (H : Hanging) (hung : WellHung P kept H) where
  pub some_counts : Messages counts P H one_entry
  some_counts = some_messages counts counts_laws P sound kept H hung one_entry (λ f y z k valid valid' same. refl)

  module _ (n : Messages counts P H one_entry) where
    -- the entries of all functions, each once
    pub all_counted : tree_value counts P H one_entry n ≡ functions P
    all_counted =
        let (y, picked) = picked_plan counts P sound kept H hung one_entry (λ f y z k valid valid' same. refl) n in
        sym (score_reached counts counts_laws P sound kept H hung one_entry n y picked) ∙ joins_ones (functions P)

    pub best_few : (v : ℕ) → v < variables P → is_root H v ≡ true → n.best v ≤ functions P
    best_few v known root = omega (arith, all_counted, passing_member (variables P) v (is_root H) n.best known root)

    -- what a function sends is part of what comes up to the variable that it hangs from
    r_below : (f x : ℕ) → f < functions P → x < size P (above P H f) → n.r f x ≤ n.q (above P H f) x
    r_below f x known fits =
        let v = above P H f in
        let up = n.variable v x (above_known P sound kept H hung f known) fits in
        omega (arith, up, passing_member (functions P) f (λ g. eqb (above P H g) v) (λ g. n.r g x) known (eq-eqb v v refl))

    -- what a variable sends is part of what its function sends, at some value
    q_below : (v f x : ℕ) → v < variables P → H.var_parent v ≡ Some f → x < size P v → (z : ℕ) × (z < size P (above P H f)) × (n.q v x ≤ n.r f z)
    q_below v f x known hangs-so fits =
        let y = put (nothing P) v x in
        let valid = put_valid P (nothing P) v x (nothing_valid P sound) fits in
        let k = hung.var_known v f known hangs-so in
        let z = y (above P H f) in
        let low = valid (above P H f) (above_known P sound kept H hung f k) in
        let given = 1 + from_variables counts P H n.q f y in
        let sent = leb-true given (n.r f z) ((n.function f z k low).bound y (valid, refl)) in
        let part = passing_member (variables P) v (λ u. hangs (H.var_parent u) f) (λ u. n.q u (y u)) known (hangs_test (H.var_parent v) f hangs-so) in
        let same = ap (n.q v) (put_here (nothing P) v x) in
        (z, low, omega arith)

    pub q_few : (v x : ℕ) → v < variables P → x < size P v → n.q v x ≤ functions P
    q_few v x known fits = from_roots P sound kept H hung (λ u. (a : ℕ) → a < size P u → n.q u a ≤ functions P) at_root lower v known x fits
      where
        at_root : (u : ℕ) → u < variables P → H.var_parent u ≡ None → (a : ℕ) → a < size P u → n.q u a ≤ functions P
        at_root u k e a h =
            let root = root_test (H.var_parent u) e in
            omega (arith, best_few u k root, leb-true (n.q u a) (n.best u) ((n.root u k root).bound a h))

        lower : (u f : ℕ) → u < variables P → H.var_parent u ≡ Some f → ((a : ℕ) → a < size P (above P H f) → n.q (above P H f) a ≤ functions P) → (a : ℕ) → a < size P u → n.q u a ≤ functions P
        lower u f k e up a h =
            let (z, low, part) = q_below u f a k e h in
            omega (arith, up z low, r_below f z (hung.var_known u f k e) low)

    pub r_few : (f x : ℕ) → f < functions P → x < size P (above P H f) → n.r f x ≤ functions P
    r_few f x known fits = omega (arith, r_below f x known fits, q_few (above P H f) x (above_known P sound kept H hung f known) fits)
