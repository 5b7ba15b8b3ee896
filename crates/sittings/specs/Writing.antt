-- The file of the problem that is open. Assumes nothing.
use Rattle.std.specs.Prelude.{◌≡◌, ℕ, List, Result, MatchResult}
use Rattle.scale.specs.Levels.{capped, weakest}
use Rattle.scale.specs.Points.{points}
use Rattle.scale.specs.Ranks.{ranked}
use Rattle.scale.specs.Rules.{Rules}
use Rattle.theory.specs.Problem.{Problem}
use Rattle.theory.specs.Refusals.{Answered, Untouched}
use Rattle.file.specs.Numbers.{refusal}
use Rattle.file.specs.Spelling.{file_size}
use Rattle.file.specs.Writing.{WrittenAs, write_tests}
use Rattle.file.specs.declared.fault.FileFault.{FileFault}
use Rattle.sittings.specs.declared.open.Open.{Open}
use Rattle.sittings.specs.declared.open.Open.TheVariants.{Nothing, Points, Capped, Ranked, Weakest}
use Rattle.sittings.specs.declared.reply.Reply.{Reply}
use Rattle.sittings.specs.declared.reply.Reply.TheVariants.{FileWritten, FileRefused, Unknown}
use Rattle.sittings.specs.States.{points_state, capped_state, ranked_state, weakest_state}

-- the reply to a file that was written
abbrev pub Told : Result ℕ FileFault → Reply → Type 0
Told file r = MatchResult file (λ n. r ≡ FileWritten n) (λ fault. r ≡ FileRefused fault)

-- The reply is the length of the problem's file, which the front of the buffer is; or the buffer is too short, and is as it was.
abbrev pub WrittenIn : {E : Type 0} → Rules E → Problem → List ℕ → Reply → List ℕ → Type 0
WrittenIn R P before r after =
    (file : Result ℕ FileFault) ×
    Answered refusal (write_tests P before) (λ n. (n ≡ file_size P) × WrittenAs R P before after) file ×
    Untouched file before after ×
    Told file r

-- The problem that is open is written in its scale; with none open, writing is unknown.
abbrev pub Written : Open → List ℕ → Reply → List ℕ → Type 0
Written Nothing before r after = (r ≡ Unknown) × (after ≡ before)
Written (Points p) before r after = WrittenIn points (points_state p).problem before r after
Written (Capped p) before r after = WrittenIn capped (capped_state p).problem before r after
Written (Ranked p) before r after = WrittenIn ranked (ranked_state p).problem before r after
Written (Weakest p) before r after = WrittenIn weakest (weakest_state p).problem before r after
