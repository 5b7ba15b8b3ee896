use Rattle.std.proofs.Common.{◌≡◌, ◌+◌, ◌≤◌, List, length, get_or, sym, ap, ◌∙◌, subst, arith}
use Rattle.spanning.proofs.WeightCells.{weight_count, weight_cell}
use Rattle.solving.proofs.telling.told.Goals as goal

pub removed_weight-removed-requires : goal.removed_weight-removed-requires
removed_weight-removed-requires g c =
    let cells = c.args.values.now.cells.now in
    let room : 2304 ≤ length cells = omega (arith, c.requires.values, c.args.values.now.whole) in
    record {
      long = ap length c.part.ensures ∙ weight_count cells room;
      few = λ n d h.
          let same : get_or c.part.result.now n d ≡ get_or cells (2048 + n) d = ap (λ (s : List g.row.V.Denot). get_or s n d) c.part.ensures ∙ weight_cell cells n d h in
          subst (g.V.Scale.within 2) (sym same) (c.requires.few n d h);
    }
