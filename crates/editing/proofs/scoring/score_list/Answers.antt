use Rattle.std.proofs.Common.{ap, ◌∙◌, arith}
use mathlib.Core.Path.{fun_ext}
use Rattle.theory.specs.Problem.{score}
use Rattle.tables.proofs.Ordered.{within_sizes}
use Rattle.tables.specs.View.{problem_of}
use Rattle.editing.proofs.scoring.score_list.Goals as goal

pub plan_of-requires : goal.plan_of-requires
plan_of-requires g c =
    let fits = within_sizes c.args.tables.now in
    record {
      few = omega (arith, c.requires.long, fits.few_variables);
      small = λ v h. omega (arith, c.requires.long, c.requires.valid v (omega (arith, c.requires.long)), fits.small_domains v (omega (arith, c.requires.long)));
    }

pub returns : goal.returns
returns g c =
    record {
      exact = c.score.ensures.exact ∙ ap (score g.V.Scale.rules (problem_of c.args.tables.now)) (fun_ext c.plan_of.ensures);
      within = c.score.ensures.within;
    }
