-- The present links listed up to a number. Assumes nothing.
use Rattle.std.proofs.Common.{◌≡◌, ℕ, ◌+◌, ◌<◌, ◌≤◌, true, false, List, [], ◌∷◌, ◌++◌, ltb, length, get_or, ◌∙◌, ⊎_elim, arith, below_more}
use Rattle.std.proofs.lemmas.Bool.{both_ways, cases_lt, lt-ltb}
use Rattle.std.proofs.lemmas.List.{get_or_append_left, get_or_push, length_push}
use Rattle.theory.specs.Graphs.{Graph}
use Rattle.forest.specs.Along.{Listed, Ordered}

-- The list has the numbers below n of the present links, each once, from the lowest.
pub record ListedBelow (G : Graph) (xs : List ℕ) (n : ℕ) : Type 0 where
  pub only : (i : ℕ) → i < length xs → G.present (get_or xs i 0) ≡ true
  pub below : (i : ℕ) → i < length xs → get_or xs i 0 < n
  pub complete : (m : ℕ) → m < n → G.present m ≡ true → (i : ℕ) × (i < length xs) × (get_or xs i 0 ≡ m)
  pub rising : Ordered ltb xs

pub listed_none : (G : Graph) → ListedBelow G [] 0
listed_none G = record {
  only = λ i h. absurd (omega arith);
  below = λ i h. absurd (omega arith);
  complete = λ m h. absurd (omega arith);
  rising = λ i j lt h. absurd (omega arith);
}

pub listed_all : (G : Graph) (xs : List ℕ) → ListedBelow G xs G.links → Listed G xs
listed_all G xs listed = record { only = listed.only; complete = listed.complete; rising = listed.rising }

module _ (G : Graph) (xs : List ℕ) (n : ℕ) (listed : ListedBelow G xs n) where
  -- n is no link
  pub listed_past : G.present n ≡ false → ListedBelow G xs (n + 1)
  listed_past none = record {
    only = listed.only;
    below = λ i h. let low = listed.below i h in omega arith;
    complete = below_more _ n listed.complete (λ there. absurd (both_ways (G.present n) none there));
    rising = listed.rising;
  }

  -- n is put at the end
  pub listed_more : G.present n ≡ true → ListedBelow G (xs ++ (n ∷ [])) (n + 1)
  listed_more there =
      let long = length_push xs n in
      let old : (i : ℕ) → i < length xs → get_or (xs ++ (n ∷ [])) i 0 ≡ get_or xs i 0 = λ i h. get_or_append_left xs (n ∷ []) 0 i h in
      let new : (i : ℕ) → length xs ≤ i → i < length (xs ++ (n ∷ [])) → get_or (xs ++ (n ∷ [])) i 0 ≡ n = λ i le h. get_or_push xs n 0 i (omega arith) in
      record {
        only = λ i h. ⊎_elim (λ lt. rw (old i lt) (listed.only i lt)) (λ le. rw (new i le h) there) (cases_lt i (length xs));
        below = λ i h. ⊎_elim
            (λ lt. let low = listed.below i lt in omega (arith, old i lt))
            (λ le. omega (arith, new i le h))
            (cases_lt i (length xs));
        complete = below_more _ n
            (λ m h is. let (i, lt, at) = listed.complete m h is in (i, omega arith, old i lt ∙ at))
            (λ is. (length xs, omega arith, new (length xs) (omega arith) (omega arith)));
        rising = λ i j lt h.
            let one = old i (omega arith) in
            ⊎_elim
            (λ (k : j < length xs). rw one (rw (old j k) (listed.rising i j lt k)))
            (λ (le : length xs ≤ j). let low = listed.below i (omega arith) in lt-ltb _ _ (omega (arith, one, new j le h)))
            (cases_lt j (length xs));
      }
