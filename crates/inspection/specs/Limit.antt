-- How many bytes of an input are enough to answer it. Assumes nothing.
use Rattle.std.specs.Prelude.{◌≡◌, ℕ, ◌≤◌, List, length, take}
use Rattle.scale.specs.Rules.{Rules}
use Rattle.theory.specs.Refusals.{First, NoneFits}
use Rattle.file.specs.Bytes.{half}
use Rattle.file.specs.Tests.{file_tests}

-- n bytes tell the code that an input begins with
abbrev pub TellsCode : ℕ → Type 0
TellsCode n = (bs : List ℕ) → half (take n bs) 0 ≡ half bs 0

-- n bytes are enough: an input that is at least as long is answered as its first n bytes are, and is declined
pub record Suffices {E : Type 0} (n : ℕ) (R : Rules E) : Type 0 where
  pub whole : (bs : List ℕ) (a : ℕ × ℕ) → n ≤ length bs → First (file_tests R bs) a → First (file_tests R (take n bs)) a
  pub front : (bs : List ℕ) (a : ℕ × ℕ) → n ≤ length bs → First (file_tests R (take n bs)) a → First (file_tests R bs) a
  pub declined : (bs : List ℕ) → n ≤ length bs → NoneFits (file_tests R bs) → ⊥
