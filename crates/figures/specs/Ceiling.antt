-- The ceiling, by what it is joined of. Assumes nothing.
use Rattle.std.specs.Prelude.{ℕ}
use Rattle.scale.specs.Rules.{Rules}
use Rattle.joining.specs.Standing.{StandsFor}

-- If `tree` stands for the tree value e and `removed` for the weight d of the removed links, r stands for their join. (Each of at most 64 functions counts
-- one entry, and each of at most 256 links two.)
abbrev pub CeilingOf : {V E : Type 0} → Rules E → (V → E) → (ℕ → V → Type 0) → V → V → V → Type 0
CeilingOf {E} R means within tree removed r =
    (e d : E) → StandsFor means within e 64 tree → StandsFor means within d 512 removed → StandsFor means within (R.join e d) 576 r
