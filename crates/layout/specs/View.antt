-- A layout as its user sees it. Assumes nothing.
use Rattle.std.specs.Prelude.{ℕ, List, [], map, take, sum_by, slice_index_or}
use Rattle.theory.specs.Sizes.{combinations}
use Rattle.short_list.specs.View.{items_of}
use Rattle.layout.specs.declared.layout.Layout.{Layout}
use Rattle.layout.specs.Scopes.{listed}

-- the size of each variable's domain, and the scope of each function, in the order of their numbers
abbrev pub domains_of : Layout → List ℕ
domains_of l = items_of l.domains

abbrev pub scopes_of : Layout → List (List ℕ)
scopes_of l = map listed (items_of l.scopes)

-- how many words its tables have together
abbrev pub words_in : Layout → ℕ
words_in l = sum_by (combinations (domains_of l)) (scopes_of l)

-- where the table of a function begins: how many words the tables before it have together
abbrev pub start_in : Layout → ℕ → ℕ
start_in l f = sum_by (combinations (domains_of l)) (take f (scopes_of l))

-- the variables of a function by place; none where there is no such function
abbrev pub scope_in : Layout → ℕ → List ℕ
scope_in l f = slice_index_or (scopes_of l) f []
