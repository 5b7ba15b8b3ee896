-- A sheet that shows what a solve left is the sheet of its problem. Assumes nothing.
use Rattle.std.proofs.Common.{subst}
use Rattle.scale.specs.Rules.{Rules}
use Rattle.theory.specs.KeptBy.{Rule}
use Rattle.theory.specs.Problem.{Problem}
use Rattle.rules.specs.Figures.{Figures, Stores}
use Rattle.sheets.specs.declared.printing.Sheet.{Sheet}
use Rattle.sheets.specs.Sheets.{Tells, SheetOf, SolvedAs}

pub shown : {E : Type 0} {R : Rules E} {rule : Rule} {P Q : Problem} {figures : Figures E} {stores : Stores E} {s : Sheet} →
    SolvedAs R rule P Q figures stores → Tells R Q figures s → SheetOf R P rule s
shown {R = R} {figures = figures} {stores = stores} {s = s} solve tells = record {
  figures = figures;
  stores = stores;
  solved = solve.solved;
  guaranteed = solve.guaranteed;
  tells = subst (λ (P : Problem). Tells R P figures s) solve.same tells;
}
