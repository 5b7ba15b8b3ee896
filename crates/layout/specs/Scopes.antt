-- A scope as a list of variables, and where tables begin. Assumes nothing.
use Rattle.std.specs.Prelude.{◌≡◌, ℕ, ◌<◌, ◌≤◌, List, map, length, take, sum_by, ◌≢◌, slice_index}
use Rattle.theory.specs.Sizes.{combinations}
use Rattle.short_list.specs.View.{items_of}
use Rattle.layout.specs.declared.scope.Scope.{Scope}

-- the variables of a scope, by place
abbrev pub listed : Scope → List ℕ
listed s = items_of s.variables

-- no variable stands twice
abbrev pub NoneTwice : List ℕ → Type 0
NoneTwice scope = (p q : ℕ) → p < q → q < length scope → slice_index scope p ≢ slice_index scope q

-- the sizes of the variables of a scope, and the values that a plan gives them
abbrev pub sizes_of : List ℕ → List ℕ → List ℕ
sizes_of domains scope = map (λ (v : ℕ). slice_index domains v) scope

abbrev pub values_of : List ℕ → List ℕ → List ℕ
values_of plan scope = map (λ (v : ℕ). slice_index plan v) scope

-- the plan gives each variable of the scope a value of its domain
abbrev pub InDomains : List ℕ → List ℕ → List ℕ → Type 0
InDomains domains scope plan = (p : ℕ) → p < length scope → slice_index plan (slice_index scope p) < slice_index domains (slice_index scope p)

-- Each table begins where the tables before it end.
abbrev pub Placed : List ℕ → List (List ℕ) → List ℕ → Type 0
Placed domains scopes starts = (f : ℕ) → f ≤ length scopes → slice_index starts f ≡ sum_by (combinations domains) (take f scopes)
