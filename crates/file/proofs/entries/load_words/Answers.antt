use Rattle.std.proofs.Common.{ℕ, ◌<◌, ◌≢◌, List, [], length, get_or, ap, ◌∙◌, arith, get_or-set_other, get_or-set_same, below_more}
use Rattle.file.specs.Bytes.{word}
use Rattle.file.proofs.Parts.{chunk_word}
use Rattle.file.proofs.entries.load_words.Goals as goal

pub loop-k-preserved : goal.loop-k-preserved
loop-k-preserved c =
    let k = c.loop-k.k in
    let told = c.from_le_bytes.ensures ∙ ap (λ (cs : List (List ℕ)). word (get_or cs k []) 0) c.as_chunks.ensures.front ∙ chunk_word c.args.section.now k (omega arith) in
    below_more _ _
    (λ j h. let other : j ≢ k = omega arith in rw get_or-set_other (c.loop-k.invariant j h))
    (let room : k < length c.loop-k.words = omega arith in rw get_or-set_same told)
