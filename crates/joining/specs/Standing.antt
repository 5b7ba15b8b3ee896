-- Values of the machine by the exact values that they stand for. Assumes nothing.
use Rattle.std.specs.Prelude.{◌≡◌, ℕ, ◌+◌, ◌≤◌}
use Rattle.scale.specs.Rules.{Rules}

module _ {V E : Type 0} (means : V → E) (within : ℕ → V → Type 0) where
  -- r stands for the exact value e, and is joined of at most n entries.
  pub record StandsFor (e : E) (n : ℕ) (r : V) : Type 0 where
    pub exact : means r ≡ e
    pub few : within n r

-- r is a joined with b, exactly so for at most 1,024 entries in all.
abbrev pub JoinOf : {V E : Type 0} → Rules E → (V → E) → (ℕ → V → Type 0) → V → V → V → Type 0
JoinOf R means within a b r = (m n : ℕ) → within m a → within n b → m + n ≤ 1024 → (means r ≡ R.join (means a) (means b)) × within (m + n) r
