-- A cut table as the entries are laid over it, one after another. Assumes nothing.
use Rattle.std.proofs.Common.{◌≡◌, ℕ, ◌+◌, ◌<◌, ◌≤◌, cond, ◌⊎◌, List, length, get_or, set, refl, sym, subst, arith}
use Rattle.scale.specs.Rules.{Rules}
use Rattle.scale.specs.Laws.{Plain}
use Rattle.theory.specs.Problem.{product}
use Rattle.messages.specs.declared.places.Places.{Places}
use Rattle.messages.specs.Places.{place_in, sizes_in, cut_index, CutTo}
use Rattle.messages.proofs.Combining.{key_low, key_twice}
use Rattle.messages.proofs.Lowering.{lows_step}

module _ {E : Type 0} (R : Rules E) (L : Plain R) (s : Places) (table : List ℕ) (full : length table ≡ product (sizes_in s)) (i : ℕ) (low : i < length table) where
  inside : i < product (sizes_in s)
  inside = omega (arith, low, full)

  -- the index of an entry's cut is no later
  pub cut_low : cut_index s i ≤ i
  cut_low = key_low (λ p. (place_in s p).kept) (sizes_in s) i inside

  -- one entry more, over the word at the index of its cut
  pub laid_one : (key : ℕ) (words : List ℕ) (r : ℕ) → length words ≡ length table → cut_index s i ≡ key → CutTo R s table i words →
      ((key ≡ i) × (r ≡ get_or table i 0)) ⊎ ((key ≡ i → ⊥) × ((d : ℕ) →
      r ≡ cond (R.leq (R.reads (get_or table i 0)) (R.reads (get_or words key d))) (get_or table i 0) (get_or words key d))) →
      CutTo R s table (i + 1) (set words key r)
  laid_one key words r long is laid way =
      let test = λ (p : ℕ). (place_in s p).kept in
      let sizes = sizes_in s in
      let new = get_or table i 0 in
      subst (λ (k : ℕ). CutTo R s table (i + 1) (set words k r)) is
      (lows_step R L R.reads (cut_index s) (λ j. R.reads (get_or table j 0)) i words new r (omega (arith, low, long)) (key_low test sizes i inside) (key_twice test sizes i inside)
      (λ j h. key_low test sizes j (omega (arith, inside))) laid refl
      (subst (λ (k : ℕ). ((k ≡ i) × (r ≡ new)) ⊎ ((k ≡ i → ⊥) × ((d : ℕ) → r ≡ cond (R.leq (R.reads new) (R.reads (get_or words k d))) new (get_or words k d)))) (sym is) way))
