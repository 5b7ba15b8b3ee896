use Rattle.std.proofs.Common.{◌≡◌, get_or, ◌∙◌, sym, subst, ℕ, arith}
use Rattle.ffi.proofs.Words.{Begun, begun_set, begun_clear, begun_all, bit_set, bit_clear}
use Rattle.ffi.proofs.numbers.word_of.Goals as goal
use Rattle.ffi.proofs.numbers.word_of.Goals.{then-holds, else-holds}

pub loop-bit-preserved : goal.loop-bit-preserved
loop-bit-preserved c =
    let words = c.args.links.now.words in
    let k = c.args.number in
    let i = c.loop-bit.bit in
    let x = get_or words k 0 in
    elim c.if-holds.branch [
      | then-holds w ↦ rw w.word-is (begun_set x i c.loop-bit.word (omega arith) c.loop-bit.invariant (bit_set words k i (omega arith) (sym c.holds.ensures ∙ w.if-holds.true)))
      | else-holds w ↦ rw w.word-is (begun_clear x i c.loop-bit.word c.loop-bit.invariant (bit_clear words k i (omega arith) (sym c.holds.ensures ∙ w.if-holds.false)))
    ]

pub returns : goal.returns
returns c =
    let x = get_or c.args.links.now.words c.args.number 0 in
    let all : c.loop-bit.bit ≡ 64 = omega arith in
    begun_all x c.loop-bit.word (c.args.links.now.fit c.args.number) (omega arith) (subst (λ (i : ℕ). Begun x i c.loop-bit.word) all c.loop-bit.invariant)
