-- What a problem is to its user, what can be asked of it, and what it can answer. Assumes nothing.
use Rattle.std.specs.Prelude.{ℕ, List, Option}
use Rattle.theory.specs.Problem.{Problem}
use Rattle.theory.specs.KeptBy.{Rule}
use Rattle.rules.specs.Figures.{Figures, Stores}

-- A report that stands, and the rule that it was made by.
pub record Standing (E : Type 0) : Type 0 where
  pub rule : Rule
  pub figures : Figures E

pub record State (E : Type 0) : Type 0 where
  pub problem : Problem
  pub report : Option (Standing E)

pub data Call : Type 0 where
  -- a domain size
  add_variable : ℕ → Call
  -- a scope
  add_function : List ℕ → Call
  -- a function, an index and a word
  set_entry : ℕ → ℕ → ℕ → Call
  -- a rule, and the lengths of the value store and of the choice store
  solve : Rule → ℕ → ℕ → Call
  report : Call
  -- a list of values
  score : List ℕ → Call
  -- a function and a place
  weight : ℕ → ℕ → Call

pub data Answer (E : Type 0) : Type 0 where
  refused : ℕ → Answer E
  -- the number of what was added
  number : ℕ → Answer E
  done : Answer E
  -- a report, and what the stores then hold
  solved : Figures E → Stores E → Answer E
  told : Figures E → Answer E
  value : E → Answer E
