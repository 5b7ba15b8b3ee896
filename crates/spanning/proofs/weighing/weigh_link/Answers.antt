use Rattle.std.proofs.Common.{◌≡◌, true, false}
use Rattle.std.proofs.lemmas.Bool.{both_ways}
use Rattle.theory.specs.Links.{is_link}
use Rattle.tables.specs.View.{problem_of}
use Rattle.spanning.proofs.OfTables.{as_told, function_there, place_there}
use Rattle.spanning.proofs.weighing.weigh_link.Goals as goal

pub weight-requires : goal.weight-requires
weight-requires g c =
    let t = c.args.tables.now in
    let n = c.args.link in
    let there : is_link (problem_of t) n ≡ true = as_told t n true c.if-is_link.ensures in
    record { function = function_there t n there; place = place_there t n there }

pub returns-then-is_link-clause-unweighed : goal.returns-then-is_link-clause-unweighed
returns-then-is_link-clause-unweighed g c = λ none. absurd (both_ways _ none (as_told c.args.tables.now c.args.link true c.if-is_link.ensures))

pub returns-else-is_link-clause-weighs : goal.returns-else-is_link-clause-weighs
returns-else-is_link-clause-weighs g c = λ there. absurd (both_ways _ (as_told c.args.tables.now c.args.link false c.if-is_link.ensures) there)
