-- A problem to begin with: an empty one, or that of a file. Assumes nothing.
use Rattle.std.specs.Prelude.{◌≡◌, ℕ, List, Result, MatchResult}
use Rattle.scale.specs.Levels.{capped, weakest}
use Rattle.scale.specs.Points.{points}
use Rattle.scale.specs.Ranks.{ranked}
use Rattle.scale.specs.Rules.{Rules}
use Rattle.theory.specs.Problem.{no_problem}
use Rattle.theory.specs.Refusals.{Answered}
use Rattle.calls.specs.State.{State}
use Rattle.calls.specs.Step.{Begins, unreported}
use Rattle.file.specs.Bytes.{half}
use Rattle.file.specs.Numbers.{refusal}
use Rattle.file.specs.Reading.{ReadAs}
use Rattle.file.specs.Tests.{file_tests}
use Rattle.file.specs.declared.fault.FileFault.{FileFault}
use Rattle.inspection.specs.Describing.{NoScale, other_tests}
use Rattle.sittings.specs.declared.open.Open.{Open}
use Rattle.sittings.specs.declared.open.Open.TheVariants.{Nothing, Points, Capped, Ranked, Weakest}
use Rattle.sittings.specs.States.{points_state, capped_state, ranked_state, weakest_state}

-- The problem is in the scale of the code, without variables and functions, and no report stands.
abbrev pub IsEmpty : ℕ → Open → Type 0
IsEmpty code Nothing = ⊥
IsEmpty code (Points p) = (code ≡ points.code) × (points_state p ≡ unreported no_problem)
IsEmpty code (Capped p) = (code ≡ capped.code) × (capped_state p ≡ unreported no_problem)
IsEmpty code (Ranked p) = (code ≡ ranked.code) × (ranked_state p ≡ unreported no_problem)
IsEmpty code (Weakest p) = (code ≡ weakest.code) × (weakest_state p ≡ unreported no_problem)

-- The result is an empty problem in the scale of the code, or the refusal of a code that no scale has.
abbrev pub Empties : ℕ → Result Open FileFault → Type 0
Empties code r = MatchResult r (IsEmpty code) (λ fault. NoScale code × (refusal fault ≡ (19, 0)))

-- A state is that of the problem that the bytes spell, and a start.
abbrev pub Read : {E : Type 0} → Rules E → List ℕ → State E → Type 0
Read R bs s = ReadAs R bs s.problem × Begins R s

-- A problem is open as the one that the bytes spell in its scale.
abbrev pub IsRead : List ℕ → Open → Type 0
IsRead bs Nothing = ⊥
IsRead bs (Points p) = Read points bs (points_state p)
IsRead bs (Capped p) = Read capped bs (capped_state p)
IsRead bs (Ranked p) = Read ranked bs (ranked_state p)
IsRead bs (Weakest p) = Read weakest bs (weakest_state p)

-- A file is answered by the tests of the scale that its code names; an accepted one is open.
pub record Opens (bs : List ℕ) (r : Result Open FileFault) : Type 0 where
  pub in_points : half bs 0 ≡ 1 → Answered refusal (file_tests points bs) (IsRead bs) r
  pub in_capped : half bs 0 ≡ 2 → Answered refusal (file_tests capped bs) (IsRead bs) r
  pub in_ranked : half bs 0 ≡ 3 → Answered refusal (file_tests ranked bs) (IsRead bs) r
  pub in_weakest : half bs 0 ≡ 4 → Answered refusal (file_tests weakest bs) (IsRead bs) r
  pub in_no_scale : NoScale (half bs 0) → Answered refusal (other_tests bs) (λ _. ⊥) r
