-- One text of those that are numbers. Assumes nothing.
use Rattle.std.proofs.Common.{◌≡◌, ℕ, zero, suc, ◌<◌, List, [], ◌∷◌, length, get_or, Bor, refl, arith}
use Rattle.std.specs.List.{AllByRecursion}
use Rattle.sittings.specs.Numbers.{IsNumber}
use Rattle.sittings.specs.Spoken.{texts}

at : (list : List (Bor (List ℕ))) (i : ℕ) (d : Bor (List ℕ)) → i < length list → AllByRecursion IsNumber (texts list) → IsNumber (get_or list i d).now
at [] i d l h = absurd (omega arith)
at (x ∷ xs) zero d l h = h.0
at (x ∷ xs) (suc i) d l h = at xs i d (omega arith) h.1

-- It is a number. The first part says nothing: it shows `grind` the text.
pub number_at : (list : List (Bor (List ℕ))) (i : ℕ) (d : Bor (List ℕ)) → i < length list → AllByRecursion IsNumber (texts list) →
    (get_or list i d ≡ get_or list i d) × IsNumber (get_or list i d).now
number_at list i d l h = (refl, at list i d l h)
