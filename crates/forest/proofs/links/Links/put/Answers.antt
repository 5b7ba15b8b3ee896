use Rattle.std.proofs.Common.{◌≡◌, ◌*◌, ◌/◌, ◌%◌, ◌^◌, length, get_or, arith, rules}
use lib.Bits.{bit_or}
use Rattle.std.proofs.lemmas.Nat.{or_lt}
use Rattle.forest.proofs.Bit.{kept_or, word_fits}
use Rattle.forest.proofs.links.Links.put.Goals as goal

pub returns : goal.returns
returns c = λ n.
    let long : length c.args.self.now.words ≡ 4 = search rules in
    kept_or c.args.self.now.words c.args.link n (omega (arith, c.requires, long))

pub invariant_of-self-clause-fit : goal.invariant_of-self-clause-fit
invariant_of-self-clause-fit c = λ k.
    let words = c.args.self.now.words in
    let i = c.args.link / 64 in
    let bit = (1 * 2 ^ (c.args.link % 64)) % 18446744073709551616 in
    word_fits words i (bit_or (get_or words i 0) bit) k c.args.self.now.fit (or_lt 64 (get_or words i 0) bit (c.args.self.now.fit i) (omega arith))
