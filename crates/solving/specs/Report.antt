-- A report and two stores, as what the rules say of them. Assumes nothing.
use Rattle.std.specs.Prelude.{ℕ, List, map}
use Rattle.rules.specs.Figures.{Figures, Stores}
use Rattle.solving.specs.declared.report.Report.{Report}

-- the figures of a report, in exact values
abbrev pub figures_of : {V E : Type 0} → (V → E) → Report V → Figures E
figures_of means r = record {
  plan = r.plan;
  kept = r.kept.words;
  kept_count = r.kept_count;
  tree = means r.tree;
  score = means r.score;
  removed = means r.removed;
  ceiling = means r.ceiling;
  share = r.share;
}

-- what two stores hold, in exact values
abbrev pub stores_of : {V E : Type 0} → (V → E) → List V → List ℕ → Stores E
stores_of means values choices = record { values = map means values; choices = choices }

-- Of how many entries at most the values of a report are each joined.
pub record Within {V : Type 0} (within : ℕ → V → Type 0) (r : Report V) : Type 0 where
  pub tree : within 64 r.tree
  pub score : within 64 r.score
  pub removed : within 512 r.removed
  pub ceiling : within 576 r.ceiling
