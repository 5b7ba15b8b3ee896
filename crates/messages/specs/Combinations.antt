-- The combination of values that stands at a position of a table. Assumes nothing.
use Rattle.std.specs.Prelude.{ℕ, suc, ◌/◌, ◌%◌, Bool, cond, List, [], ◌∷◌, map}
use Rattle.theory.specs.Problem.{Problem, size, scope_of, product, index}
use Rattle.theory.specs.Links.{link}

-- the values at position i of a table over these sizes, by place: the inverse of `index`
abbrev pub combination : List ℕ → ℕ → List ℕ
combination [] i = []
combination (s ∷ sizes) i = i / product sizes ∷ combination sizes (i % product sizes)

-- the values with 0 at the places that fail the test
abbrev pub cleared : (ℕ → Bool) → List ℕ → List ℕ
cleared test [] = []
cleared test (x ∷ xs) = cond (test 0) x 0 ∷ cleared (λ p. test (suc p)) xs

-- how many values the variables at the places of f have
abbrev pub sizes_at : Problem → ℕ → List ℕ
sizes_at P f = map (size P) (scope_of P f)

-- the position that has 0 at the removed places of f, and else the values that stand at position i
abbrev pub cut_position : Problem → (ℕ → Bool) → ℕ → ℕ → ℕ
cut_position P kept f i = index (sizes_at P f) (cleared (λ p. kept (link f p)) (combination (sizes_at P f) i))
