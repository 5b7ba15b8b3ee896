use Rattle.std.proofs.Common.{rules, ◌≡◌, List, [], ◌∷◌, length, replicate, ap, ap₂, ◌∙◌, subst, refl}
use Rattle.std.specs.List.{FoldsTo}
use Rattle.board.proofs.Board.fill.Goals as goal

-- Calls that each return a, and leave the state as it was, return a list of a.
all_same : {P A : Type 0} (R : P → A → P → Type 0) (a : A) (p : P) → ((x : A) (q : P) → R p x q → (x ≡ a) × (q ≡ p)) →
    (xs : List A) (last : P) → FoldsTo R p xs last → xs ≡ replicate (length xs) a
all_same R a p each [] last folds = refl
all_same R a p each (x ∷ xs) last (q, step, folds) =
    let (here, still) = each x q step in
    ap₂ ◌∷◌ here (all_same R a p each xs last (subst (λ s. FoldsTo R s xs last) still folds))

pub returns-clause-after : goal.returns-clause-after
returns-clause-after g c =
    let (last, ran) = c.fill_with.ensures.ran in
    all_same _ c.args.value _ (λ x q step. search rules) c.fill_with.new.self last ran ∙ ap (λ n. replicate n c.args.value) c.fill_with.ensures.len
