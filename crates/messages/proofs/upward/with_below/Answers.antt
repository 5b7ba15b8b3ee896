use Rattle.std.proofs.Common.{◌+◌, sym, ap, ◌∙◌, subst, arith}
use Rattle.theory.specs.Joins.{when}
use Rattle.joining.specs.Counts.{counts}
use Rattle.joining.specs.Standing.{StandsFor}
use Rattle.joining.proofs.Joining.{when_true, when_false, stands_for, join_stands}
use Rattle.messages.proofs.upward.with_below.Goals as goal
use Rattle.messages.proofs.upward.with_below.Goals.{then-last, else-last}

pub returns : goal.returns
returns g c = λ e q n m up held few.
    let v = g.V.Scale in
    let test = c.args.last.now.below in
    let below : StandsFor v.means v.within (v.rules.join e (when v.rules test q)) (n + when counts test m) c.if-last.below = elim c.if-last.branch [
      | then-last w ↦
          let on = w.if-last.true in
          let message = subst (StandsFor v.means v.within q m) (sym (w.get.ensures w.get.result)) (held on w.get.result) in
          let new = stands_for v.rules v.means v.within (sym (when_true v.rules q on)) (sym (when_true counts m on)) message in
          subst (StandsFor v.means v.within (v.rules.join e (when v.rules test q)) (n + when counts test m)) (sym w.below-is) (join_stands v.rules v.means v.within up new (omega arith) w.join-below.ensures)
      | else-last w ↦
          let off = w.if-last.false in
          let none = when_false counts m off in
          subst (StandsFor v.means v.within (v.rules.join e (when v.rules test q)) (n + when counts test m)) (sym w.below-is)
          (stands_for v.rules v.means v.within (sym (g.met.V.Scale.laws.unit e) ∙ sym (ap (v.rules.join e) (when_false v.rules q off))) (omega (arith, none)) up)
    ] in
    let entry : StandsFor v.means v.within (v.rules.reads c.args.word) 1 c.value_of.result = record { exact = c.value_of.ensures.means; few = c.value_of.ensures.within } in
    join_stands v.rules v.means v.within entry below (omega arith) c.join.ensures
