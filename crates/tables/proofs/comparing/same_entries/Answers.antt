use Rattle.std.proofs.Common.{map, sym, ◌∙◌, rules, tests}
use Rattle.std.proofs.lemmas.Iterator.{YieldsList-from_slice, YieldsList-from_zip, same_from_all}
use Rattle.std.proofs.lemmas.Iterator.Consumers.{YieldsList-at}
use Rattle.std.proofs.lemmas.List.{length-map}
use Rattle.layout.proofs.Chains.{YieldsList-read}
use Rattle.tables.proofs.comparing.same_entries.Goals as goal

pub returns-then-ours-theirs : goal.returns-then-ours-theirs
returns-then-ours-theirs g c =
    let reads = g.V.Scale.rules.reads in
    let ours = c.args.ours.now in
    let theirs = c.args.theirs.now in
    same_from_all c.all.new.self _ c.all.result (map reads ours) (map reads theirs) c.all.ensures.ran
    (YieldsList-from_zip (YieldsList-at c.zip.ensures.first (YieldsList-read reads (YieldsList-from_slice ours cc))) (YieldsList-read reads (YieldsList-from_slice theirs c.zip.ensures.second.0)))
    (length-map ours reads ∙ c.if-ours-theirs.true ∙ sym (length-map theirs reads))
    (λ x q k. search (rules, tests)) (λ x q k. search (rules, tests))
