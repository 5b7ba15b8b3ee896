-- A forest hung from its lowest variables hangs in one way. Assumes nothing.
use Rattle.std.proofs.Common.{◌≡◌, ℕ, ◌<◌, Bool, ◌⊎◌, Some, sym, ap, ◌∙◌, subst, inl, inr, arith}
use Rattle.std.proofs.lemmas.Bool.Decides.{same_from_decides}
use Rattle.theory.specs.Problem.{Problem, Sound, variables, functions, at}
use Rattle.theory.specs.Forest.{Hanging, WellHung, LowestRoots, above, is_root}
use Rattle.theory.proofs.Descent.{above_known, from_roots}
use Rattle.theory.proofs.Hangs.{root_test, root_from}

module _ (P : Problem) (sound : Sound P) (kept : ℕ → Bool) (H H' : Hanging) (hung : WellHung P kept H) (hung' : WellHung P kept H')
    (lowest : LowestRoots P kept H) (lowest' : LowestRoots P kept H') where
  pub root_same : (v : ℕ) → v < variables P → is_root H v ≡ is_root H' v
  root_same v k = same_from_decides (is_root H v) (is_root H' v) (lowest v k) (lowest' v k)

  -- where a function's parent hangs alike, so does the function
  fun_from_above : (f : ℕ) → f < functions P → H.var_parent (above P H f) ≡ H'.var_parent (above P H f) → H.fun_parent f ≡ H'.fun_parent f
  fun_from_above f k alike = by_link (hung'.each_link f (H.fun_parent f) k (hung.fun_place f k) (hung.fun_kept f k))
    where
      by_link : (H.fun_parent f ≡ H'.fun_parent f) ⊎ (H'.var_parent (above P H f) ≡ Some f) → H.fun_parent f ≡ H'.fun_parent f
      by_link (inl e) = e
      by_link (inr e) =
          let up = hung.var_falls (above P H f) f (above_known P sound kept H hung f k) (alike ∙ e) in
          let down = hung.fun_falls f k in
          absurd (omega arith)

  pub var_same : (v : ℕ) → v < variables P → H.var_parent v ≡ H'.var_parent v
  var_same = from_roots P sound kept H hung (λ v. H.var_parent v ≡ H'.var_parent v)
      (λ v k e. e ∙ sym (root_from (H'.var_parent v) (sym (root_same v k) ∙ root_test (H.var_parent v) e)))
      (λ v f k e alike.
      let known = hung.var_known v f k e in
      let (p, place, here, keeps) = hung.var_kept v f k e in
      e ∙ sym (by_link v f k e p here (fun_from_above f known alike) (hung'.each_link f p known place keeps)))
    where
      by_link : (v f : ℕ) → v < variables P → H.var_parent v ≡ Some f → (p : ℕ) → at P f p ≡ v → H.fun_parent f ≡ H'.fun_parent f →
          (p ≡ H'.fun_parent f) ⊎ (H'.var_parent (at P f p) ≡ Some f) → H'.var_parent v ≡ Some f
      by_link v f k e p here alike (inl own) =
          let same : above P H f ≡ v = ap (at P f) (alike ∙ sym own) ∙ here in
          let up = hung.var_falls v f k e in
          let down = hung.fun_falls f (hung.var_known v f k e) in
          let ranks = ap hung.var_rank same in
          absurd (omega arith)
      by_link v f k e p here alike (inr below) = subst (λ (u : ℕ). H'.var_parent u ≡ Some f) here below

  pub fun_same : (f : ℕ) → f < functions P → H.fun_parent f ≡ H'.fun_parent f
  fun_same f k = fun_from_above f k (var_same (above P H f) (above_known P sound kept H hung f k))
