use Rattle.std.proofs.Common.{refl}
use Rattle.shipped.proofs.Weakest.{weakest_are, weakest_promised}
use Rattle.shipped.proofs.weakest_promise.Goals as goal

pub returns : goal.returns
returns c = record {
  rules = weakest_are;
  calls = record { variable = λ _. refl; function = λ _. refl; entry = λ _ _ _. refl; solve = λ _ _. refl; report = refl; score = λ _. refl };
  promise = weakest_promised;
}
