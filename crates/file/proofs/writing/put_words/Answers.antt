use Rattle.std.proofs.Common.{◌+◌, ◌*◌, length, get_or, ap, ◌∙◌, arith, below_more}
use Rattle.file.proofs.Writes.{one_more, word_kept, word_told}
use Rattle.file.proofs.writing.put_words.Goals as goal

pub loop-k-preserved : goal.loop-k-preserved
loop-k-preserved c =
    let k = c.loop-k.k in
    let place = c.args.place in
    let out = c.loop-k.out in
    let after = c.put_bytes.new.out in
    let from = place + 4 * k in
    let to = place + 4 * (k + 1) in
    let put = one_more c.args.out.now out after place from to 4 c.to_le_bytes.result (ap length c.to_le_bytes.ensures) (omega arith) (omega arith) c.loop-k.invariant.0 c.put_bytes.ensures.written c.put_bytes.ensures.content in (
      put.written,
      below_more _ _ (λ i h. word_kept out after from to put.last (place + 4 * i) (omega arith) ∙ c.loop-k.invariant.1 i h)
          (word_told after from (get_or c.args.words.now k 0) (omega arith) (put.content ∙ c.to_le_bytes.ensures)),
    )
