use Rattle.std.proofs.Common.{◌<◌, ◌≤◌, ⊎_elim, arith, rules}
use Rattle.std.proofs.lemmas.List.{get_or_past}
use Rattle.std.proofs.lemmas.Bool.{cases_lt}
use Rattle.forest.proofs.keeping.alone.Goals as goal

pub returns : goal.returns
returns c = λ a. ⊎_elim
    (λ (lt : a < 128). let made = c.from_fn.ensures.items.at a a lt in search rules)
    (λ (le : 128 ≤ a). get_or_past c.from_fn.result a a (omega (arith, c.from_fn.ensures.items.long)))
    (cases_lt a 128)
