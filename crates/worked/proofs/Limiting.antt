-- Limits worked through. Assumes nothing.
use Rattle.std.proofs.Common.{◌≡◌, ℕ, zero, suc, ◌<◌, ◌≤◌, ◌≢◌, ◌⊎◌, [], ◌∷◌, List, get_or, length, refl, sym, inl, inr, ⊎_elim, arith}
use Rattle.std.proofs.lemmas.Bool.{false≢true}
use Rattle.theory.specs.Problem.{size, scope_of}
use Rattle.theory.specs.KeptBy.{Rule, straight, bounded}
use Rattle.theory.specs.Sizes.{all_words}
use Rattle.calls.specs.State.{Call}
use Rattle.worked.proofs.TwoByTwo.{one, two}
use Rattle.worked.specs.Table.{pair}
use Rattle.worked.specs.Limits.{DeclinedOn, TakenOn, variables_alone, Limits, NotWithin}

-- a number that is within two bounds is not outside of them
inside : (low high n : ℕ) → low ≤ n → n ≤ high → (n < low) ⊎ (high < n) → ⊥
inside low high n h k = ⊎_elim (λ u. omega arith) (λ u. omega arith)

-- neither of two sizes is passed
room : (m n m' n' : ℕ) → n ≤ m → n' ≤ m' → (m < n) ⊎ (m' < n') → ⊥
room m n m' n' h k = ⊎_elim (λ u. omega arith) (λ u. omega arith)

-- a scope of one place is known and repeats nothing
one_known : (n v : ℕ) → v < n → ((p : ℕ) × (p < 1) × (n ≤ get_or (v ∷ []) p 0)) → ⊥
one_known n v less (p, h, bad) = one (λ p. n ≤ get_or (v ∷ []) p 0 → ⊥) (λ k. omega arith) p h bad

one_apart : (v : ℕ) → ((p q : ℕ) × (p < q) × (q < 1) × (get_or (v ∷ []) p 0 ≡ get_or (v ∷ []) q 0)) → ⊥
one_apart v (p, q, less, low, same) = omega arith

-- and so is one that has the variable p at its place p
module _ (scope : List ℕ) (order : (p : ℕ) → p < length scope → get_or scope p 0 ≡ p) where
  order_known : (n : ℕ) → length scope ≤ n → ((p : ℕ) × (p < length scope) × (n ≤ get_or scope p 0)) → ⊥
  order_known n small (p, h, bad) = let is = order p h in omega arith

  order_apart : ((p q : ℕ) × (p < q) × (q < length scope) × (get_or scope p 0 ≡ get_or scope q 0)) → ⊥
  order_apart (p, q, less, low, same) = let left = order p (omega arith) in let right = order q low in omega arith

abbrev three : List ℕ
three = 0 ∷ 1 ∷ 2 ∷ []

abbrev four : List ℕ
four = 0 ∷ 1 ∷ 2 ∷ 3 ∷ []

three_order : (p : ℕ) → p < 3 → get_or three p 0 ≡ p
three_order zero h = refl
three_order (suc zero) h = refl
three_order (suc (suc zero)) h = refl
three_order (suc (suc (suc p))) h = absurd (omega arith)

four_order : (p : ℕ) → p < 4 → get_or four p 0 ≡ p
four_order zero h = refl
four_order (suc zero) h = refl
four_order (suc (suc zero)) h = refl
four_order (suc (suc (suc zero))) h = refl
four_order (suc (suc (suc (suc p)))) h = absurd (omega arith)

repeated_known : ((p : ℕ) × (p < 3) × (5 ≤ get_or (3 ∷ 4 ∷ 3 ∷ []) p 0)) → ⊥
repeated_known (zero, h, bad) = omega arith
repeated_known (suc zero, h, bad) = omega arith
repeated_known (suc (suc zero), h, bad) = omega arith
repeated_known (suc (suc (suc p)), h, bad) = omega arith

-- what either rule answers to stores of a length
stores_taken : (rule : Rule) → TakenOn (variables_alone 1) (Call.solve rule 2304 1024)
stores_taken straight = (⊎_elim (λ ne. ne refl) (λ ne. ne refl), (λ e. omega arith, (λ c. let h = c.uses.below in omega arith, tt)))
stores_taken bounded = (⊎_elim (λ ne. ne refl) (λ ne. ne refl), (λ e. omega arith, tt))

stores_declined : (values choices : ℕ) → (values ≢ 2304) ⊎ (choices ≢ 1024) → (rule : Rule) → DeclinedOn (variables_alone 1) (Call.solve rule values choices) 1
stores_declined values choices other straight = inl (other, refl)
stores_declined values choices other bounded = inl (other, refl)

pub limits : Limits
unfolding size scope_of all_words
limits = record {
  no_value = inl (inl (omega arith), refl);
  one_value = (inside 1 16 1 (omega arith) (omega arith), (λ h. omega arith, tt));
  most_values = (inside 1 16 16 (omega arith) (omega arith), (λ h. omega arith, tt));
  many_values = inl (inr (omega arith), refl);
  last_variable = (inside 1 16 1 (omega arith) (omega arith), (λ h. omega arith, tt));
  many_variables = inr (inside 1 16 1 (omega arith) (omega arith), inl (omega arith, refl));
  no_place = inl (inl (omega arith), refl);
  one_place = (inside 1 4 1 (omega arith) (omega arith), (one_known 5 4 (omega arith), (one_apart 4, (λ h. omega arith, (room 1024 1 4096 1 (omega arith) (omega arith), tt)))));
  most_places = (inside 1 4 4 (omega arith) (omega arith), (order_known four four_order 5 (omega arith), (order_apart four four_order, (λ h. omega arith, (room 1024 1 4096 1 (omega arith) (omega arith), tt)))));
  many_places = inl (inr (omega arith), refl);
  unknown = inr (inside 1 4 1 (omega arith) (omega arith), inl ((0, omega arith, omega arith), refl));
  repeated = inr (inside 1 4 3 (omega arith) (omega arith), inr (repeated_known, inl ((0, 2, omega arith, omega arith, refl), refl)));
  last_function = (inside 1 4 1 (omega arith) (omega arith), (one_known 1 0 (omega arith), (one_apart 0, (λ h. omega arith, (room 1024 1 4096 64 (omega arith) (omega arith), tt)))));
  many_functions = inr (inside 1 4 1 (omega arith) (omega arith), inr (one_known 1 0 (omega arith), inr (one_apart 0, inl (omega arith, refl))));
  last_table = (inside 1 4 3 (omega arith) (omega arith), (order_known three three_order 4 (omega arith), (order_apart three three_order, (λ h. omega arith, (room 1024 1024 4096 4096 (omega arith) (omega arith), tt)))));
  many_words = inr (inside 1 4 1 (omega arith) (omega arith), inr (one_known 4 3 (omega arith), inr (one_apart 3, inr (λ h. omega arith, inl (inr (omega arith), refl)))));
  large_table = inr (inside 1 4 4 (omega arith) (omega arith), inr (order_known four four_order 4 (omega arith), inr (order_apart four four_order, inr (λ h. omega arith, inl (inl (omega arith), refl)))));
  highest_entry = (λ h. omega arith, (λ h. omega arith, (λ e. false≢true (sym e), tt)));
  high_entry = inr (λ h. omega arith, inr (λ h. omega arith, inl (refl, refl)));
  lowest_entry = (λ h. omega arith, (λ h. omega arith, (λ e. false≢true (sym e), tt)));
  low_entry = inr (λ h. omega arith, inr (λ h. omega arith, inl (refl, refl)));
  last_place = (λ h. omega arith, (λ h. omega arith, tt));
  past_places = inr (λ h. omega arith, inl (omega arith, refl));
  last_values = (λ ne. ne refl, (λ (v, h, bad). two (λ v. size pair v ≤ get_or (1 ∷ 1 ∷ []) v 0 → ⊥) (λ k. omega arith) (λ k. omega arith) v h bad, tt));
  past_values = inr (λ ne. ne refl, inl ((1, omega arith, omega arith), refl));
  long_list = inl (λ e. omega arith, refl);
  stores = stores_taken;
  fewer_values = stores_declined 2303 1024 (inl (λ e. omega arith));
  more_values = stores_declined 2305 1024 (inl (λ e. omega arith));
  fewer_choices = stores_declined 2304 1023 (inr (λ e. omega arith));
  more_choices = stores_declined 2304 1025 (inr (λ e. omega arith));
}

pub not_within : NotWithin
unfolding size all_words
not_within = record {
  domain = λ fits. let h = fits.small_domains 0 (omega arith) in omega arith;
  variables = λ fits. let h = fits.few_variables in omega arith;
  functions = λ fits. let h = fits.few_functions in omega arith;
  table = λ fits. let h = fits.small_tables 0 (omega arith) in omega arith;
  words = λ fits. let h = fits.few_words in omega arith;
}
