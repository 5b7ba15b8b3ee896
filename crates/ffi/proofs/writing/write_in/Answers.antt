use Rattle.std.proofs.Common.{inr}
use Rattle.file.specs.Numbers.{refusal}
use Rattle.ffi.proofs.writing.write_in.Goals as goal

pub returns-in-Err-clause-many : goal.returns-in-Err-clause-many
returns-in-Err-clause-many g c = λ some. inr ((refusal c.in-Err.fault, c.in-Err.ensures.many some, c.told.ensures.coded, c.told.ensures.above), c.in-Err.ensures.declined)

pub returns-in-Err-clause-never : goal.returns-in-Err-clause-never
returns-in-Err-clause-never g c = λ none. (inr ((refusal c.in-Err.fault, (c.in-Err.ensures.never none).0, c.told.ensures.coded, c.told.ensures.above), tt), c.in-Err.ensures.declined)
