-- The number of each refusal of a scale. Assumes nothing.
use Rattle.std.specs.Prelude.{ℕ}
use Rattle.scale.specs.declared.fault.ScaleFault.{ScaleFault}
use Rattle.scale.specs.declared.fault.ScaleFault.TheVariants.{NoEntry}

-- 11: the word is no entry
abbrev pub scale_number : ScaleFault → ℕ
scale_number NoEntry = 11
