use Rattle.std.proofs.Common.{map, ◌∙◌, sym, rules, tests}
use Rattle.std.proofs.lemmas.Iterator.{YieldsList-from_slice, YieldsList-from_zip, same_from_all}
use Rattle.std.proofs.lemmas.Iterator.Consumers.{YieldsList-at}
use Rattle.std.proofs.lemmas.List.{length-map}
use Rattle.layout.specs.Scopes.{listed}
use Rattle.layout.proofs.Chains.{YieldsList-read}
use Rattle.layout.proofs.layout.reading.same_scopes.Goals as goal

pub returns-then-ours-theirs : goal.returns-then-ours-theirs
returns-then-ours-theirs c =
    let ours = c.args.ours.now in
    let theirs = c.args.theirs.now in
    same_from_all c.all.new.self _ c.all.result (map listed ours) (map listed theirs) c.all.ensures.ran
    (YieldsList-from_zip (YieldsList-at c.zip.ensures.first (YieldsList-read listed (YieldsList-from_slice ours cc))) (YieldsList-read listed (YieldsList-from_slice theirs c.zip.ensures.second.0)))
    (length-map ours listed ∙ c.if-ours-theirs.true ∙ sym (length-map theirs listed))
    (λ x q k. search (rules, tests)) (λ x q k. search (rules, tests))
