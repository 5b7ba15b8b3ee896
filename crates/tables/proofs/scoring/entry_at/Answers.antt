use Rattle.std.proofs.Common.{ℕ, List, get_or, ap, ◌∙◌, ap₂}
use Rattle.theory.specs.Problem.{entry}
use Rattle.tables.proofs.Ordered.{position_is}
use Rattle.tables.proofs.scoring.entry_at.Goals as goal

pub returns : goal.returns
unfolding entry
returns g c =
    let index = c.index-index.ensures.value ∙ position_is c.args.tables.now c.args.plan c.args.function in
    record {
      exact = c.value_of.ensures.means ∙ ap g.V.Scale.rules.reads (c.word_at.ensures ∙ ap₂ (λ (words : List ℕ) (i : ℕ). get_or words i 0) c.table.ensures index);
      within = c.value_of.ensures.within;
    }
