use Rattle.std.proofs.Common.{◌≡◌, ◌∙◌, rules}
use Rattle.std.specs.List.{sum_by}
use lib.Count.{ones}
use Rattle.std.proofs.iter.runs.Sources.{sums}
use Rattle.forest.proofs.Counting.{kept_all}
use Rattle.forest.proofs.links.count_bits.Goals as goal

pub returns : goal.returns
returns c =
    let summed : c.sum.result ≡ sum_by ones c.args.words.now = search (rules, sums) in
    summed ∙ kept_all c.args.words.now (λ j. (c.type_inv.words j).fits)
