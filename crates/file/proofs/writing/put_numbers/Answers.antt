use Rattle.std.proofs.Common.{◌+◌, ◌*◌, length, get_or, ap, ◌∙◌, arith, below_more}
use Rattle.file.proofs.Writes.{one_more, half_kept, half_told}
use Rattle.file.proofs.writing.put_numbers.Goals as goal

pub loop-j-preserved : goal.loop-j-preserved
loop-j-preserved c =
    let j = c.loop-j.j in
    let out = c.loop-j.out in
    let after = c.put_bytes.new.out in
    let from = 2 * j in
    let to = 2 * (j + 1) in
    let put = one_more c.args.out.now out after 0 from to 2 c.to_le_bytes.result (ap length c.to_le_bytes.ensures) (omega arith) (omega arith) c.loop-j.invariant.0 c.put_bytes.ensures.written c.put_bytes.ensures.content in (
      put.written,
      below_more _ _ (λ i h. half_kept out after from to put.last (2 * i) (omega arith) ∙ c.loop-j.invariant.1 i h)
          (half_told after from (get_or c.args.numbers j 0) (omega arith) (put.content ∙ c.to_le_bytes.ensures)),
    )
