use Rattle.std.proofs.Common.{rules}
use Rattle.file.proofs.header.half_at.Goals as goal

pub returns : goal.returns
returns c = record { value = search rules; bound = search rules; bytes = λ k. (c.type_inv.bytes k).fits }
