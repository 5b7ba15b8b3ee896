use Rattle.std.proofs.Common.{ℕ, length, take, sum_by, sym, ap, ◌∙◌}
use Rattle.std.proofs.lemmas.Slice.Eq.{slice_eq-Decides}
use Rattle.layout.specs.View.{domains_of, scopes_of}
use Rattle.tables.specs.View.{problem_of}
use Rattle.tables.proofs.Ordered.{functions_length, scopes_from}
use Rattle.inspection.proofs.looking.look.Goals as goal
use Rattle.std.proofs.lemmas.Bool.Decides.{Decides-eqb}

pub returns : goal.returns
returns g c =
    let t = c.read.new.tables in
    let read = c.in_ok-read.ensures.answer in
    let written = c.in_ok-written.ensures.answer in
    let l = t.layout in
    let copy = c.write.new.out in
    let back = ap (λ (n : ℕ). take n copy) written.1.0 ∙ read.1.again _ written.1.1.spelled in (
      read.0,
      record {
        problem = problem_of t;
        spelled = read.1.spelled;
        scale = c.code.ensures;
        variable_count = ap length c.domains.ensures;
        function_count = c.functions.ensures ∙ sym (functions_length (domains_of l) (scopes_of l) t.words);
        entry_count = ap length c.all_words.ensures.words;
        link_count = c.links.ensures ∙ ap (sum_by length) (sym (scopes_from (domains_of l) (scopes_of l) t.words));
        byte_count = written.1.0 ∙ sym read.1.spelled.long;
        same = (slice_eq-Decides Decides-eqb _ _ _ c.eq.ensures).1 back;
      },
    )
