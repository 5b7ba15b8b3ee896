-- How many combinations of values the places of a function have. Assumes nothing.
use Rattle.std.proofs.Common.{◌≡◌, ℕ, ◌+◌, ◌*◌, ◌<◌, ◌≤◌, List, map, length, get_or, drop, sym, ap, ◌∙◌, subst, ap₂, mul_assoc}
use Rattle.std.proofs.Math.ListN.{drop_of_length-le}
use Rattle.std.proofs.lemmas.List.{drop_more}
use Rattle.theory.specs.Problem.{Problem, Sound, product, size, functions, arity, at, scope_of}
use Rattle.layout.specs.View.{domains_of, scope_in}
use Rattle.tables.specs.declared.tables.Tables.{Tables}
use Rattle.tables.specs.View.{problem_of}
use Rattle.tables.proofs.Ordered.{scope_is}
use Rattle.weights.specs.Swings.{values_at, stride_at}

-- how many combinations of values the places from p on have
abbrev pub from_place : Problem → ℕ → ℕ → ℕ
from_place P f p = product (map (size P) (drop p (scope_of P f)))

module _ (P : Problem) (sound : Sound P) (f : ℕ) (known : f < functions P) (p : ℕ) (place : p < arity P f) where
  pub some_value : 0 < values_at P f p
  some_value = sound.nonempty (at P f p) (sound.known f p known place)

  first_of : from_place P f p ≡ values_at P f p * stride_at P f p
  unfolding at
  first_of = ap (λ (s : List ℕ). product (map (size P) s)) (drop_more (scope_of P f) p 0 place)

  -- a factor of the product over the places from p on goes over to what is multiplied already
  pub one_more : (m n : ℕ) → m * from_place P f p ≡ n → m * values_at P f p * from_place P f (p + 1) ≡ n
  one_more m n e = mul_assoc m (values_at P f p) (stride_at P f p) ∙ ap (λ (k : ℕ). m * k) (sym first_of) ∙ e

-- past the last place there is one combination: of no values
pub past_last : (P : Problem) (f q : ℕ) → arity P f ≤ q → from_place P f q ≡ 1
past_last P f q h = ap (λ (s : List ℕ). product (map (size P) s)) (drop_of_length-le (scope_of P f) h)

-- how many values a place has, by the domains and the scope of a layout
pub value_is : (t : Tables) (f : ℕ) (ds s : List ℕ) → ds ≡ domains_of t.layout → s ≡ scope_in t.layout f → (p : ℕ) → get_or ds (get_or s p 0) 0 ≡ values_at (problem_of t) f p
unfolding size at
value_is t f ds s domains scope p = ap₂ (λ (ds s : List ℕ). get_or ds (get_or s p 0) 0) domains (scope ∙ sym (scope_is t f))

-- and a place is one of that scope
pub place_in : (t : Tables) (f : ℕ) (s : List ℕ) → s ≡ scope_in t.layout f → (p : ℕ) → p < arity (problem_of t) f → p < length s
place_in t f s scope p = subst (λ (s : List ℕ). p < length s) (scope_is t f ∙ sym scope)
