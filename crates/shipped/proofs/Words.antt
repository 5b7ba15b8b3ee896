-- Words in two's complement. Assumes nothing.
use Rattle.std.proofs.Common.{◌≡◌, ℕ, to_z, arith}
use Rattle.std.specs.Int.{w16, w32}
use Rattle.shipped.specs.Plain.{signed_32, signed_16}

pub signed_32_is : (n : ℕ) → to_z w32 n ≡ signed_32 n
signed_32_is n = grind arith

pub signed_16_is : (n : ℕ) → to_z w16 n ≡ signed_16 n
signed_16_is n = grind arith
