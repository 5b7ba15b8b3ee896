-- What writing a file leaves. Assumes nothing.
use Rattle.std.specs.Prelude.{◌≡◌, ℕ, ◌<◌, List, [], ◌∷◌, length, take, drop}
use Rattle.scale.specs.Rules.{Rules}
use Rattle.theory.specs.Problem.{Problem}
use Rattle.theory.specs.Refusals.{NoneFits}
use Rattle.file.specs.Spelling.{Spells, Agree, AllEntries, file_size}
use Rattle.file.specs.Tests.{file_tests}

-- The test of a buffer that a problem is to be written to.
abbrev pub write_tests : Problem → List ℕ → List ((ℕ × ℕ) × Type 0)
write_tests P out = ((24, 0), length out < file_size P) ∷ []

-- The front of the buffer spells the problem, and later bytes are as they were. Where all words are entries, no test of the file fits,
-- and whatever problem the file is read as has the same domains, scopes and words.
pub record WrittenAs {E : Type 0} (R : Rules E) (P : Problem) (before after : List ℕ) : Type 0 where
  pub spelled : Spells R.code (take (file_size P) after) P
  pub later : drop (file_size P) after ≡ drop (file_size P) before
  pub accepted : AllEntries R P → NoneFits (file_tests R (take (file_size P) after))
  pub back : (Q : Problem) → Spells R.code (take (file_size P) after) Q → Agree P Q
