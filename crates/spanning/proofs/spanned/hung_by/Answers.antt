use Rattle.theory.specs.Kept.{kept_at}
use Rattle.tables.specs.View.{problem_of}
use Rattle.spanning.proofs.OfTables.{shaped, all_hung_lem}
use Rattle.spanning.proofs.spanned.hung_by.Goals as goal

pub returns-clause-hung : goal.returns-clause-hung
returns-clause-hung c =
    let t = c.args.tables.now in
    all_hung_lem t (kept_at c.args.links.words) c.hang.result c.requires.each c.requires.clear (c.hang.ensures (problem_of t) (shaped t))
