-- The message of a function by the positions of its table. Assumes nothing.
use Rattle.std.specs.Prelude.{◌≡◌, ℕ, ◌<◌, Bool, true, List, length, slice_index}
use Rattle.scale.specs.Rules.{Rules}
use Rattle.theory.specs.Joins.{joins, when, Lowest}
use Rattle.theory.specs.Problem.{Problem, function, arity, at}
use Rattle.theory.specs.Forest.{Hanging, hangs}
use Rattle.messages.specs.Combinations.{combination, sizes_at, cut_position}

-- how many words the table of f has
abbrev pub table_length : Problem → ℕ → ℕ
table_length P f = length (function P f).words

-- i is a position of the table of f with 0 at its removed places
abbrev pub CutPosition : Problem → (ℕ → Bool) → ℕ → ℕ → Type 0
CutPosition P kept f i = (i < table_length P f) × (cut_position P kept f i ≡ i)

-- the value of the place p at position i
abbrev pub value_at : Problem → ℕ → ℕ → ℕ → ℕ
value_at P f i p = slice_index (combination (sizes_at P f) i) p

-- i is such a position where the parent of f has the value x
abbrev pub ParentAt : Problem → (ℕ → Bool) → Hanging → ℕ → ℕ → ℕ → Type 0
ParentAt P kept H f x i = CutPosition P kept f i × (value_at P f i (H.fun_parent f) ≡ x)

module _ {E : Type 0} (R : Rules E) (P : Problem) where
  -- what the word at position i of the table of f reads as
  abbrev pub read_at : ℕ → ℕ → E
  read_at f i = R.reads (slice_index (function P f).words i)

  -- c is the cut table of f: at each position with 0 at the removed places, the lowest entry of the positions with the same values at the kept ones.
  abbrev pub CutEntries : (ℕ → Bool) → ℕ → (ℕ → E) → Type 0
  CutEntries kept f c = (k : ℕ) → CutPosition P kept f k → Lowest R (λ j. (j < table_length P f) × (cut_position P kept f j ≡ k)) (read_at f) (c k)

  module _ (H : Hanging) (q : ℕ → ℕ → E) where
    -- For messages q of variables: what comes up to f at some values of its places, from the variables below it.
    abbrev pub from_below : ℕ → List ℕ → E
    from_below f xs = joins R (arity P f) (λ p. when R (hangs (H.var_parent (at P f p)) f) (q (at P f p) (slice_index xs p)))

    -- what f gives at position i, with what comes up to it there, where c is its cut table
    abbrev pub given_at : (ℕ → E) → ℕ → ℕ → E
    given_at c f i = R.join (c i) (from_below f (combination (sizes_at P f) i))

    -- best is the highest of what f gives where its parent has the value x, and i the first position that gives it
    pub record FirstHighest (kept : ℕ → Bool) (c : ℕ → E) (f x : ℕ) (best : E) (i : ℕ) : Type 0 where
      pub here : ParentAt P kept H f x i
      pub reached : given_at c f i ≡ best
      pub bound : (j : ℕ) → ParentAt P kept H f x j → R.leq (given_at c f j) best ≡ true
      pub first : (j : ℕ) → ParentAt P kept H f x j → given_at c f j ≡ best → (j < i → ⊥)
