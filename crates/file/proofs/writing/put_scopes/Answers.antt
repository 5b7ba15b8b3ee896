use Rattle.std.proofs.Common.{ℕ, ◌+◌, ◌*◌, ◌≤◌, List, length, ap, ◌∙◌, subst, arith, below_more}
use Rattle.layout.specs.View.{scope_in}
use Rattle.file.specs.Spelling.{scope_bytes}
use Rattle.file.proofs.Records.{bytes_length}
use Rattle.file.proofs.Writes.{one_more, part_kept}
use Rattle.file.proofs.writing.put_scopes.Goals as goal

pub loop-f-preserved : goal.loop-f-preserved
loop-f-preserved c =
    let f = c.loop-f.f in
    let place = c.args.place in
    let out = c.loop-f.out in
    let after = c.put_bytes.new.out in
    let scope = scope_in c.args.layout.now f in
    let told = c.packed.ensures ∙ ap scope_bytes c.scope.ensures.list in
    let small : length scope ≤ 4 = subst (λ (s : List ℕ). length s ≤ 4) c.scope.ensures.list c.scope.ensures.few in
    let from = place + 5 * f in
    let to = place + 5 * (f + 1) in
    let put = one_more c.args.out.now out after place from to 5 c.packed.result (ap length told ∙ bytes_length scope small) (omega arith) (omega arith) c.loop-f.invariant.0 c.put_bytes.ensures.written c.put_bytes.ensures.content in (
      put.written,
      below_more _ _
          (λ i h. part_kept out after from to put.last (place + 5 * i) 5 (omega arith) (omega arith) (omega (arith, c.requires.room)) ∙ c.loop-f.invariant.1 i h)
          (put.content ∙ told),
    )
