-- Entries, counted: what each gives in the scale of counts. Assumes nothing.
use Rattle.std.specs.Prelude.{ℕ}
use Rattle.theory.specs.Problem.{Plan}

-- every entry counts one
abbrev pub one_entry : ℕ → Plan → ℕ
one_entry f y = 1
