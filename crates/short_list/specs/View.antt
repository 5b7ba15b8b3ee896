-- A short list as its user sees it. Assumes nothing.
use Rattle.std.specs.Prelude.{ℕ, List, take}
use Rattle.short_list.specs.declared.list.ShortList.{ShortList}

-- the items, in order
abbrev pub items_of : {T : Type 0} {N : ℕ} → ShortList T N → List T
items_of s = take s.count s.items
