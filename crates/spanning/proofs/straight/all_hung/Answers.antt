use Rattle.std.proofs.Common.{ap, ◌∙◌}
use Rattle.theory.specs.Kept.{kept_at}
use Rattle.forest.specs.declared.links.Links.{Links}
use Rattle.spanning.proofs.OfTables.{one_link}
use Rattle.spanning.proofs.AllLinks.{each_kept, cycle_of_all}
use Rattle.spanning.proofs.straight.all_hung.Goals as goal

pub hung_by-requires : goal.hung_by-requires
hung_by-requires c =
    let t = c.args.tables.now in
    record {
      each = each_kept t (kept_at c.all_links.result.words) (λ n. c.all_links.ensures n ∙ one_link t n);
      clear = λ cycle. c.requires (cycle_of_all cycle);
    }

pub returns-clause-kept : goal.returns-clause-kept
returns-clause-kept c = λ n. ap (λ (s : Links). kept_at s.words n) c.hung_by.ensures.kept ∙ c.all_links.ensures n ∙ one_link c.args.tables.now n
