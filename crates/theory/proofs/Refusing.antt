-- The first of some tests that fits: there is only one, also where there are more tests before or behind. Assumes nothing.
use Rattle.std.proofs.Common.{◌≡◌, List, [], ◌∷◌, ◌++◌, sym, ◌∙◌, inl, inr}
use Rattle.theory.specs.Refusals.{First, NoneFits}

module _ {A : Type 0} where
  pub first_before : (ts us : List (A × Type 0)) (a : A) → First ts a → First (ts ++ us) a
  first_before [] us a found = absurd found
  first_before (t ∷ ts) us a (inl here) = inl here
  first_before (t ∷ ts) us a (inr later) = inr (later.0, first_before ts us a later.1)

  pub first_after : (ts us : List (A × Type 0)) (a : A) → NoneFits ts → First us a → First (ts ++ us) a
  first_after [] us a none found = found
  first_after (t ∷ ts) us a none found = inr (none.0, first_after ts us a none.1 found)

  pub none_both : (ts us : List (A × Type 0)) → NoneFits ts → NoneFits us → NoneFits (ts ++ us)
  none_both [] us none more = more
  none_both (t ∷ ts) us none more = (none.0, none_both ts us none.1 more)

  pub none_front : (ts us : List (A × Type 0)) → NoneFits (ts ++ us) → NoneFits ts
  none_front [] us none = tt
  none_front (t ∷ ts) us none = (none.0, none_front ts us none.1)

  pub none_back : (ts us : List (A × Type 0)) → NoneFits (ts ++ us) → NoneFits us
  none_back [] us none = none
  none_back (t ∷ ts) us none = none_back ts us none.1

  pub first_once : (ts : List (A × Type 0)) (a b : A) → First ts a → First ts b → a ≡ b
  first_once [] a b f g = absurd f
  first_once (t ∷ ts) a b (inl f) (inl g) = f.1 ∙ sym g.1
  first_once (t ∷ ts) a b (inl f) (inr g) = absurd (g.0 f.0)
  first_once (t ∷ ts) a b (inr f) (inl g) = absurd (f.0 g.0)
  first_once (t ∷ ts) a b (inr f) (inr g) = first_once ts a b f.1 g.1

  pub first_none : (ts : List (A × Type 0)) (a : A) → First ts a → NoneFits ts → ⊥
  first_none [] a f none = f
  first_none (t ∷ ts) a (inl f) none = none.0 f.0
  first_none (t ∷ ts) a (inr f) none = first_none ts a f.1 none.1
