-- A file that is read and written to a buffer. Assumes nothing.
use Rattle.std.specs.Prelude.{◌≡◌, ℕ, ◌<◌, List, [], ◌∷◌, ◌++◌, length, drop}
use Rattle.scale.specs.Rules.{Rules}
use Rattle.file.specs.Tests.{file_tests}

-- The tests of the file, and then that of the buffer, which is to have room for it.
abbrev pub copy_tests : {E : Type 0} → Rules E → List ℕ → List ℕ → List ((ℕ × ℕ) × Type 0)
copy_tests R bs out = file_tests R bs ++ (((24, 0), length out < length bs) ∷ [])

-- The front of the buffer is the file, and later bytes are as they were.
abbrev pub Copied : List ℕ → List ℕ → List ℕ → Type 0
Copied bs before after = after ≡ bs ++ drop (length bs) before
