-- What opening makes of a sitting, and what is replied. Assumes nothing.
use Rattle.std.specs.Prelude.{◌≡◌, ℕ, ◌⊎◌, List, length, Result, MatchResult}
use Rattle.file.specs.declared.fault.FileFault.{FileFault}
use Rattle.inspection.specs.Describing.{NoScale}
use Rattle.sittings.specs.declared.open.Open.{Open}
use Rattle.sittings.specs.declared.reply.Reply.{Reply}
use Rattle.sittings.specs.declared.reply.Reply.TheVariants.{Opened, FileRead, Refused, FileRefused}
use Rattle.sittings.specs.Opening.{IsEmpty, Opens}

-- An empty problem is open in the scale of the code; or no scale has the code, and what was open is as it was.
abbrev pub Begun : ℕ → Open → Reply → Open → Type 0
Begun code before r after =
    (IsEmpty code after × (r ≡ Opened code)) ⊎
    (NoScale code × (after ≡ before) × (r ≡ Refused 19))

-- The problem of an accepted file is open; a declined file leaves what was open as it was.
abbrev pub Replaced : List ℕ → Open → Reply → Open → Type 0
Replaced bs before r after =
    (file : Result Open FileFault) × Opens bs file ×
    MatchResult file (λ o. (after ≡ o) × (r ≡ FileRead (length bs))) (λ fault. (after ≡ before) × (r ≡ FileRefused fault))
