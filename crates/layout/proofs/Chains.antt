-- What a chain of iterators gives, read by a function of each item. Assumes nothing.
use Rattle.std.proofs.Common.{Option, List, [], ◌∷◌, map, ap}
use Rattle.std.specs.Iterator.{AlwaysYields}
use Rattle.std.proofs.lemmas.Iterator.{YieldsList}

read : {S A B C : Type 0} (steps : S → Option A → S → Type 0) (v : A → B) (f : B → C) (s : S) (ys : List B) → AlwaysYields steps v s ys → AlwaysYields steps (λ x. f (v x)) s (map f ys)
read steps v f s [] gives = gives
read steps v f s (y ∷ ys) gives = (gives.0, λ x t h. let more = gives.1 x t h in (ap f more.0, read steps v f t ys more.1))

pub YieldsList-read : {S A B C : Type 0} {steps : S → Option A → S → Type 0} {v : A → B} {s : S} {ys : List B} (f : B → C) → YieldsList steps v s ys → YieldsList steps (λ x. f (v x)) s (map f ys)
YieldsList-read {steps = steps} {v} {s} {ys} f road = record { runs = read steps v f s ys road.runs }
