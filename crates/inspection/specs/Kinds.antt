-- Which codes the four scales have. Assumes nothing.
use Rattle.std.specs.Prelude.{◌≡◌, ℕ, Result, MatchResult}
use Rattle.scale.specs.Levels.{capped, weakest}
use Rattle.scale.specs.Points.{points}
use Rattle.scale.specs.Ranks.{ranked}
use Rattle.file.specs.declared.fault.FileFault.{FileFault}
use Rattle.file.specs.Numbers.{refusal}
use Rattle.inspection.specs.Describing.{NoScale}
use Rattle.inspection.specs.declared.kind.Kind.{Kind}
use Rattle.inspection.specs.declared.kind.Kind.TheVariants.{Points, Capped, Ranked, Weakest}

-- the code of each scale, as its rules have it
abbrev pub code_of : Kind → ℕ
code_of Points = points.code
code_of Capped = capped.code
code_of Ranked = ranked.code
code_of Weakest = weakest.code

-- The result is the scale with this code, or the refusal of a code that no scale has.
abbrev pub Decodes : ℕ → Result Kind FileFault → Type 0
Decodes code r = MatchResult r (λ kind. code_of kind ≡ code) (λ fault. NoScale code × (refusal fault ≡ (19, 0)))
