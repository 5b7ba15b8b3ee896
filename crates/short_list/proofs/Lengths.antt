-- How many items a list has. Assumes nothing.
use Rattle.std.proofs.Common.{ℕ, ◌≤◌, length, arith}
use Rattle.std.proofs.lemmas.List.{length-take-le}
use Rattle.short_list.specs.declared.list.ShortList.{ShortList}
use Rattle.short_list.specs.View.{items_of}

pub few_items : {T : Type 0} {N : ℕ} (list : ShortList T N) → length (items_of list) ≤ N
few_items list = let room = list.room in let few = list.few in let long = length-take-le list.count list.items (omega arith) in omega arith
