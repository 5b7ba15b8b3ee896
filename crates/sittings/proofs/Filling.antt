-- One more piece adds one more word, if it has a byte. Assumes nothing.
use Rattle.std.proofs.Common.{◌≡◌, ℕ, ◌+◌, ◌<◌, Bool, true, false, cond, List, [], ◌∷◌, ◌++◌, length, take, get_or, nat_eq, Bor, refl, ap, ◌∙◌}
use Rattle.std.proofs.lemmas.List.{map_more}
use Rattle.sittings.specs.Lines.{filled}
use Rattle.sittings.specs.Spoken.{texts}

over : (b : Bool) (x : List ℕ) (zs more ys : List (List ℕ)) → more ≡ zs ++ ys → cond b more (x ∷ more) ≡ cond b zs (x ∷ zs) ++ ys
over true x zs more ys e = e
over false x zs more ys e = ap (λ (l : List (List ℕ)). x ∷ l) e

filled_last : (xs : List (List ℕ)) (y : List ℕ) → filled (xs ++ (y ∷ [])) ≡ filled xs ++ cond (nat_eq (length y) 0) [] (y ∷ [])
filled_last [] y = refl
filled_last (x ∷ xs) y = over (nat_eq (length x) 0) x (filled xs) (filled (xs ++ (y ∷ []))) (cond (nat_eq (length y) 0) [] (y ∷ [])) (filled_last xs y)

pub filled_more : (pieces : List (Bor (List ℕ))) (i : ℕ) (d : Bor (List ℕ)) → i < length pieces →
    filled (texts (take (i + 1) pieces)) ≡ filled (texts (take i pieces)) ++ cond (nat_eq (length (get_or pieces i d).now) 0) [] ((get_or pieces i d).now ∷ [])
filled_more pieces i d h =
    ap filled (map_more (λ (w : Bor (List ℕ)). w.now) pieces i d h) ∙ filled_last (texts (take i pieces)) (get_or pieces i d).now
