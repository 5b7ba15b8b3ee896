-- A forest hung from its lowest variables hangs in one way. Assumes nothing.
use Rattle.std.proofs.Common.{ℕ, Bool}
use Rattle.theory.specs.Problem.{Problem, Sound}
use Rattle.theory.specs.Forest.{Hanging, WellHung, LowestRoots}
use Rattle.theory.proofs.OneHanging.{var_same, fun_same}
use Rattle.hanging.specs.Forest.{SameHanging}

pub one_hanging : (P : Problem) → Sound P → (kept : ℕ → Bool) (H H' : Hanging) → WellHung P kept H → WellHung P kept H' →
    LowestRoots P kept H → LowestRoots P kept H' → SameHanging P H H'
one_hanging P sound kept H H' hung hung' lowest lowest' = record {
  var_same = var_same P sound kept H H' hung hung' lowest lowest';
  fun_same = fun_same P sound kept H H' hung hung' lowest lowest';
}
