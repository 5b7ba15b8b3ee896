use Rattle.std.proofs.Common.{◌+◌, ◌*◌, sym, ap, ◌∙◌, subst, arith}
use Rattle.board.specs.SameLent.{SameLent}
use Rattle.board.proofs.SameLent.{same_self, same_both}
use Rattle.messages.proofs.Writing.{WrittenTo, none_written, one_written, none_here, all_written}
use Rattle.messages.proofs.entries.write_choices.Goals as goal
use Rattle.messages.proofs.entries.write_choices.Goals.{in-Some, in_default}

pub loop-x-init : goal.loop-x-init
loop-x-init c = (none_written c.args.best.now (16 * c.args.function) c.args.choices.now.cells.now, same_self c.args.choices.now)

pub put-requires : goal.put-requires
put-requires c = record {
  row = omega (arith, c.requires.function, c.requires.choices, c.loop-x.invariant.1.rows);
  cell = omega (arith, c.requires.best, c.loop-x-test.true);
}

pub loop-x-preserved : goal.loop-x-preserved
loop-x-preserved c =
    let row = c.args.best.now in
    let f = c.args.function in
    let before = c.args.choices.now.cells.now in
    let inv = c.loop-x.invariant in
    let x = c.loop-x.x in
    let low = c.loop-x-test.true in
    let cells = c.loop-x.choices.cells.now in
    elim c.match-index.branch [
      | in-Some w ↦
          let whole = c.loop-x.choices.whole in (
            subst (WrittenTo row (16 * f) before (x + 1)) (sym (ap (λ b. b.cells.now) w.choices-is ∙ w.put.ensures.after))
                (one_written row (16 * f) before x low cells inv.0 w.in-Some.index w.in-Some.is (omega (arith, c.requires, inv.1.rows))),
            subst (SameLent c.args.choices.now) (sym w.choices-is) (same_both inv.1 w.put.ensures.same),
          )
      | in_default w ↦ (
        subst (λ b. WrittenTo row (16 * f) before (x + 1) b.cells.now) (sym w.choices-is) (none_here row (16 * f) before x low cells inv.0 w.in_default.is),
        subst (SameLent c.args.choices.now) (sym w.choices-is) inv.1,
      )
    ]

pub returns : goal.returns
returns c =
    let inv = c.loop-x.invariant in
    record {
      chosen = λ x i is. all_written c.args.best.now (16 * c.args.function) c.args.choices.now.cells.now c.loop-x.x c.loop-x.choices.cells.now c.loop-x-test.false inv.0 x i 0 is;
      choices = inv.0.only;
      same = inv.1;
    }
