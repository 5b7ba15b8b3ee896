-- The rows of a table by the table over all places but the last. Assumes nothing.
use Rattle.std.proofs.Common.{◌≡◌, ℕ, suc, ◌+◌, ◌-◌, ◌*◌, ◌/◌, ◌<◌, ◌≤◌, Bool, cond, List, [], ◌∷◌, ◌++◌, map, length, get_or, take, sym, refl, ap, ◌∙◌, subst, ap₂, inl, inr, length-append, arith}
use Rattle.std.proofs.lemmas.List.{get_or-take, get_or_append_left, get_or_push, map-append}
use Rattle.std.proofs.lemmas.Bool.{cond-true, cond-false, cond_both, cases_Bool}
use Rattle.std.proofs.Math.Nat.{mul-div_cancel}
use lib.Arith.{digits_lt}
use Rattle.scale.specs.Rules.{Rules}
use Rattle.theory.specs.Joins.{when}
use Rattle.theory.specs.Problem.{product, index}
use Rattle.theory.proofs.Index.{Within, index_push, product_push}
use Rattle.theory.proofs.Joins.{joins_cong}
use Rattle.joining.specs.Counts.{counts}
use Rattle.joining.specs.Standing.{StandsFor}
use Rattle.joining.proofs.Joining.{stands_for}
use Rattle.messages.specs.declared.place.Place.{Place}
use Rattle.messages.specs.declared.places.Places.{Places}
use Rattle.messages.specs.Combinations.{combination, cleared}
use Rattle.messages.specs.Place.{no_place}
use Rattle.messages.specs.Places.{places_in, count_in, place_in, sizes_in, cut_index}
use Rattle.messages.specs.Holding.{Holds}
use Rattle.messages.specs.Rows.{OuterOf, RowAt, parent_at}
use Rattle.messages.specs.Sent.{variable_cell}
use Rattle.messages.specs.Upward.{upward, BelowHeld, OuterUp}
use Rattle.messages.proofs.Combining.{combination_within, index_combination, combination_of, within_length, cleared_same, length_cleared}
use Rattle.messages.proofs.Following.{digits}
use Rattle.messages.proofs.PlaceSizes.{sizes_length}

within_push : (sizes xs : List ℕ) (s x : ℕ) → Within sizes xs → x < s → Within (sizes ++ (s ∷ [])) (xs ++ (x ∷ []))
within_push [] [] s x w h = (h, tt)
within_push [] (y ∷ xs) s x w h = absurd w
within_push (t ∷ sizes) [] s x w h = absurd w
within_push (t ∷ sizes) (y ∷ xs) s x w h = (w.0, within_push sizes xs s x w.1 h)

combination_push : (sizes : List ℕ) (s r x : ℕ) → r < product sizes → x < s → combination (sizes ++ (s ∷ [])) (r * s + x) ≡ combination sizes r ++ (x ∷ [])
combination_push sizes s r x h low =
    let xs = combination sizes r in
    let w = combination_within sizes r h in
    let is : index (sizes ++ (s ∷ [])) (xs ++ (x ∷ [])) ≡ r * s + x = index_push sizes xs s x (sym (within_length sizes xs w)) ∙ ap (λ (n : ℕ). n * s + x) (index_combination sizes r h) in
    ap (combination (sizes ++ (s ∷ []))) (sym is) ∙ combination_of (sizes ++ (s ∷ [])) (xs ++ (x ∷ [])) (within_push sizes xs s x w low)

cleared_push : (test : ℕ → Bool) (xs : List ℕ) (x : ℕ) → cleared test (xs ++ (x ∷ [])) ≡ cleared test xs ++ (cond (test (length xs)) x 0 ∷ [])
cleared_push test [] x = refl
cleared_push test (y ∷ xs) x = ap (◌∷◌ (cond (test 0) y 0)) (cleared_push (λ p. test (suc p)) xs x)

-- the key of the row that some values stand at
pub key_of : (o : Places) (r : ℕ) (values : List ℕ) → take (count_in o) values ≡ combination (sizes_in o) r → {key : ℕ} → key ≡ index (sizes_in o) (cleared (λ p. (place_in o p).kept) (take (count_in o) values)) → key ≡ cut_index o r
key_of o r values stand is = is ∙ ap (λ (zs : List ℕ). index (sizes_in o) (cleared (λ p. (place_in o p).kept) zs)) stand

-- o are the places of s but for the last.
module _ (s o : Places) (outer : OuterOf s o) (last : Place) (is : last ≡ place_in s (count_in s - 1)) where
  pub one_more_place : count_in s ≡ count_in o + 1
  one_more_place = ap length outer ∙ length-append (places_in o) (place_in s (count_in o) ∷ [])

  last_here : place_in s (count_in o) ≡ last
  last_here = ap (place_in s) (let n = one_more_place in omega arith) ∙ sym is

  pub outer_place : (p : ℕ) → p < count_in o → place_in s p ≡ place_in o p
  outer_place p h = ap (λ (list : List Place). get_or list p no_place) outer ∙ get_or_append_left (places_in o) (place_in s (count_in o) ∷ []) no_place p h

  sizes_split : sizes_in s ≡ sizes_in o ++ (last.size ∷ [])
  sizes_split =
      ap (map (λ (p : Place). p.size)) outer
      ∙ map-append (λ (p : Place). p.size) (places_in o) (place_in s (count_in o) ∷ [])
      ∙ ap (λ (a : Place). sizes_in o ++ (a.size ∷ [])) last_here

  some_value : 1 ≤ last.size
  some_value = subst (λ (a : Place). 1 ≤ a.size) (sym is) (s.small (count_in s - 1) (let n = one_more_place in omega arith)).1

  rows_full : product (sizes_in s) ≡ product (sizes_in o) * last.size
  rows_full = ap product sizes_split ∙ product_push (sizes_in o) last.size

  -- how many rows there are
  rows_count : (words : ℕ) → words ≡ product (sizes_in s) → words / last.size ≡ product (sizes_in o)
  rows_count words full = ap (λ (n : ℕ). n / last.size) (full ∙ rows_full) ∙ mul-div_cancel (product (sizes_in o)) some_value

  pub row_below : (words : ℕ) → words ≡ product (sizes_in s) → (r : ℕ) → r < words / last.size → r < product (sizes_in o)
  row_below words full r low = omega (arith, rows_count words full)

  pub rows_words : (words : ℕ) → words ≡ product (sizes_in s) → words / last.size * last.size ≡ words
  rows_words words full = ap (λ (n : ℕ). n * last.size) (rows_count words full) ∙ sym (full ∙ rows_full)

  pub row_inside : (words : ℕ) → words ≡ product (sizes_in s) → (k : ℕ) → k < product (sizes_in o) → k * last.size + last.size ≤ words
  row_inside words full k h =
      let some = some_value in
      let before : last.size - 1 < last.size = omega arith in
      omega (arith, digits_lt h before, full, rows_full)

  -- Row r, where some values of the places stand.
  module _ (r : ℕ) (h : r < product (sizes_in o)) (values : List ℕ) (stand : take (count_in o) values ≡ combination (sizes_in o) r) where
    outer_long : length (combination (sizes_in o) r) ≡ count_in o
    outer_long = within_length (sizes_in o) (combination (sizes_in o) r) (combination_within (sizes_in o) r h) ∙ sizes_length o

    -- its entry x
    module _ (x : ℕ) (low : x < last.size) where
      values_there : combination (sizes_in s) (r * last.size + x) ≡ combination (sizes_in o) r ++ (x ∷ [])
      values_there = ap (λ (sizes : List ℕ). combination sizes (r * last.size + x)) sizes_split ∙ combination_push (sizes_in o) last.size r x h low

      outer_value : (p : ℕ) → p < count_in o → get_or (combination (sizes_in s) (r * last.size + x)) p 0 ≡ get_or values p 0
      outer_value p k =
          ap (λ (xs : List ℕ). get_or xs p 0) values_there
          ∙ get_or_append_left (combination (sizes_in o) r) (x ∷ []) 0 p (let n = outer_long in omega arith)
          ∙ ap (λ (xs : List ℕ). get_or xs p 0) (sym stand)
          ∙ get_or-take (count_in o) values p 0 k

      last_value : get_or (combination (sizes_in s) (r * last.size + x)) (count_in s - 1) 0 ≡ x
      last_value =
          ap (λ (xs : List ℕ). get_or xs (count_in s - 1) 0) values_there
          ∙ get_or_push (combination (sizes_in o) r) x 0 (count_in s - 1) (let n = outer_long in let m = one_more_place in omega arith)

      pub key_there : cut_index s (r * last.size + x) ≡ cut_index o r * last.size + cond last.kept x 0
      key_there =
          let xs = combination (sizes_in o) r in
          let test = λ (p : ℕ). (place_in s p).kept in
          let n = outer_long in
          ap (λ (ys : List ℕ). index (sizes_in s) (cleared test ys)) values_there
          ∙ ap₂ index sizes_split (cleared_push test xs x ∙ ap₂ (λ (ys : List ℕ) (y : ℕ). ys ++ (y ∷ []))
          (cleared_same test (λ p. (place_in o p).kept) xs (λ p k. ap (λ (a : Place). a.kept) (outer_place p (omega arith))))
          (ap (λ (p : ℕ). cond (test p) x 0) n ∙ ap (λ (a : Place). cond a.kept x 0) last_here))
          ∙ index_push (sizes_in o) (cleared (λ p. (place_in o p).kept) xs) last.size (cond last.kept x 0)
          (let k = length_cleared (λ p. (place_in o p).kept) xs in let m = sizes_length o in omega arith)

    -- its first entry
    first_value : (p : ℕ) → p < count_in o → get_or (combination (sizes_in s) (r * last.size)) p 0 ≡ get_or values p 0
    first_value p k = ap (λ (i : ℕ). get_or (combination (sizes_in s) i) p 0) (omega arith) ∙ outer_value 0 (let n = some_value in omega arith) p k

    pub parent_there : s.parent + 1 < count_in s → get_or values s.parent 0 ≡ parent_at s (r * last.size)
    parent_there inner = sym (first_value s.parent (let n = one_more_place in omega arith))

    outer_upward : {E : Type 0} (R : Rules E) (q : ℕ → ℕ → E) → upward R o q values (count_in o) ≡ upward R s q (combination (sizes_in s) (r * last.size)) (count_in s - 1)
    outer_upward R q =
        joins_cong R (count_in o) (λ p k.
        ap₂ (λ (a : Place) (y : ℕ). when R a.below (q a.variable y)) (sym (outer_place p k)) (sym (first_value p k)))
        ∙ ap (upward R s q (combination (sizes_in s) (r * last.size))) (let m = one_more_place in omega arith)

    pub outer_up : {V E : Type 0} (R : Rules E) (means : V → E) (within : ℕ → V → Type 0) (cells : List V) (up : V) →
        ((q : ℕ → ℕ → E) (n : ℕ → ℕ → ℕ) → BelowHeld R means within o cells q n → upward counts o n values (count_in o) ≤ 1024 →
        StandsFor means within (upward R o q values (count_in o)) (upward counts o n values (count_in o)) up) →
        OuterUp R means within s cells (r * last.size) up
    outer_up R means within cells up told q n held few =
        stands_for R means within (outer_upward R q) (outer_upward counts n) (told q n
        (λ p x k on low.
        let place = outer_place p k in
        subst (λ (a : Place). Holds means within cells (variable_cell a.variable x) (q a.variable x) (n a.variable x)) place
        (held p x (let m = one_more_place in omega arith) (ap (λ (a : Place). a.below) place ∙ on) (subst (λ (a : Place). x < a.size) (sym place) low)))
        (omega (arith, outer_upward counts n, few)))

    -- Where it has 0 at the removed places but the last: so many of its entries count.
    module _ (own : cut_index o r ≡ r) (many : ℕ) (counted : many ≡ cond last.kept last.size 1) where
      pub few_count : many ≤ last.size
      few_count = elim (cases_Bool last.kept) [
        | inl e ↦ omega (arith, counted, cond-true last.kept last.size 1 e)
        | inr e ↦ omega (arith, counted, cond-false last.kept last.size 1 e, some_value)
      ]

      some_count : 1 ≤ many
      some_count = elim (cases_Bool last.kept) [
        | inl e ↦ omega (arith, counted, cond-true last.kept last.size 1 e, some_value)
        | inr e ↦ omega (arith, counted, cond-false last.kept last.size 1 e)
      ]

      own_there : (x : ℕ) → x < many → cond last.kept x 0 ≡ x
      own_there x k = elim (cases_Bool last.kept) [
        | inl e ↦ cond-true last.kept x 0 e
        | inr e ↦ cond-false last.kept x 0 e ∙ omega (arith, counted, cond-false last.kept last.size 1 e)
      ]

      pub row_at : RowAt s (r * last.size) many
      row_at =
          let few = few_count in
          let some = some_count in
          let m = one_more_place in
          record {
            inside = let k : many - 1 < last.size = omega arith in omega (arith, rows_full, digits_lt h k);
            few = subst (λ (a : Place). many ≤ a.size) is few;
            own = λ x k. key_there x (omega arith) ∙ ap₂ (λ (n l : ℕ). n * last.size + l) own (own_there x k);
            last = λ x k. last_value x (omega arith);
            others = λ x p k below. outer_value x (omega arith) p (omega arith) ∙ sym (first_value p (omega arith));
          }

      pub none_behind : (j : ℕ) → r * last.size + many ≤ j → j < r * last.size + last.size → cut_index s j ≡ j → ⊥
      none_behind j past low there =
          let x = j - r * last.size in
          let some = some_count in
          let at : r * last.size + x ≡ j = omega arith in
          elim (cases_Bool last.kept) [
            | inl e ↦ omega (arith, counted, cond-true last.kept last.size 1 e)
            | inr e ↦ omega (arith, key_there x (omega arith), ap (cut_index s) at, there, cond-false last.kept x 0 e, ap (λ (n : ℕ). n * last.size) own)
          ]

    -- Where it has another value at one of them.
    pub none_there : (cut_index o r ≡ r → ⊥) → (j : ℕ) → r * last.size ≤ j → j < r * last.size + last.size → cut_index s j ≡ j → ⊥
    none_there other j past low there =
        let x = j - r * last.size in
        let at : r * last.size + x ≡ j = omega arith in
        let under : x < last.size = omega arith in
        let small : cond last.kept x 0 < last.size = cond_both last.kept x 0 (λ (n : ℕ). n < last.size) (λ e. under) (λ e. some_value) in
        other (digits (cut_index o r) r last.size (cond last.kept x 0) x small under (sym (key_there x under) ∙ ap (cut_index s) at ∙ there ∙ sym at)).0
