use Rattle.std.proofs.Common.{length, sym, ap, ◌∙◌, arith}
use Rattle.layout.specs.View.{domains_of, scopes_of}
use Rattle.tables.specs.View.{problem_of}
use Rattle.tables.proofs.Ordered.{functions_length}
use Rattle.file.proofs.Contents.{words_length}
use Rattle.file.proofs.writing.header_of.Goals as goal

pub invariant_of-result : goal.invariant_of-result
invariant_of-result c =
    let fits = c.all_words.ensures.fits in
    let t = c.args.tables.now in
    let variables = ap length c.domains.ensures in
    let functions = c.functions.ensures ∙ sym (functions_length (domains_of t.layout) (scopes_of t.layout) t.words) in
    let entries = ap length c.all_words.ensures.words in
    let words = words_length (problem_of t) in
    record { few = (omega (arith, fits.few_variables), omega (arith, fits.few_functions), omega (arith, fits.few_words)) }

pub returns : goal.returns
returns c =
    let t = c.args.tables.now in
    record {
      variable_count = ap length c.domains.ensures;
      function_count = c.functions.ensures ∙ sym (functions_length (domains_of t.layout) (scopes_of t.layout) t.words);
      entry_count = ap length c.all_words.ensures.words;
    }
