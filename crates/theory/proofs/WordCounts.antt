-- How many words the tables of a problem have. Assumes nothing.
use Rattle.std.proofs.Common.{◌≡◌, ℕ, suc, ◌+◌, ◌<◌, List, [], ◌∷◌, map, length, get_or, sum_by, sym, refl, ◌∙◌, ap₂, arith}
use Rattle.std.proofs.lemmas.List.Sums.{sum_by-cons}
use Rattle.theory.specs.Problem.{Problem, Function, Sound, size, scope_of}
use Rattle.theory.specs.Sizes.{combinations, all_words}

-- tables with a word for each combination have as many words as their scopes have combinations
all_combinations : (domains : List ℕ) (fs : List Function) →
    ((f : ℕ) → f < length fs → length (get_or fs f (record { scope = []; words = [] })).words ≡ combinations domains (get_or fs f (record { scope = []; words = [] })).scope) →
    sum_by (combinations domains) (map (λ (f : Function). f.scope) fs) ≡ all_words fs
unfolding all_words
all_combinations domains [] full = refl
all_combinations domains (f ∷ fs) full =
    sum_by-cons (combinations domains) f.scope (map (λ (g : Function). g.scope) fs)
    ∙ ap₂ ◌+◌ (sym (full 0 (omega arith))) (all_combinations domains fs (λ g h. full (suc g) (omega arith)))

pub words_by_scope : (P : Problem) → Sound P → sum_by (combinations P.domains) (map (λ (f : Function). f.scope) P.tables) ≡ all_words P.tables
unfolding size scope_of
words_by_scope P sound = all_combinations P.domains P.tables sound.full
