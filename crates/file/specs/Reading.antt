-- What reading a file leaves. Assumes nothing.
use Rattle.std.specs.Prelude.{◌≡◌, ℕ, List}
use Rattle.scale.specs.Rules.{Rules}
use Rattle.theory.specs.Problem.{Problem}
use Rattle.file.specs.Spelling.{Spells, AllEntries}

-- What an accepted file is read as: the problem that its bytes spell, of entries of the scale. Written out again, it is that file.
pub record ReadAs {E : Type 0} (R : Rules E) (bs : List ℕ) (P : Problem) : Type 0 where
  pub spelled : Spells R.code bs P
  pub entries : AllEntries R P
  pub again : (cs : List ℕ) → Spells R.code cs P → cs ≡ bs
