use Rattle.std.proofs.Common.{inr}
use Rattle.file.specs.Numbers.{refusal}
use Rattle.ffi.proofs.solves.run.Goals as goal

pub returns-in-Err-clause-many : goal.returns-in-Err-clause-many
returns-in-Err-clause-many g c = λ some.
    let e = c.in-Err.ensures in
    inr ((refusal c.in-Err.fault, e.many some, c.told.ensures.coded, c.told.ensures.above), (e.place, e.choices, e.shown))

pub returns-in-Err-clause-never : goal.returns-in-Err-clause-never
returns-in-Err-clause-never g c = λ none.
    let e = c.in-Err.ensures in
    (inr ((refusal c.in-Err.fault, e.never none, c.told.ensures.coded, c.told.ensures.above), tt), e.place, e.choices, e.shown)
