-- The words of a table are among those of all tables. Assumes nothing.
use Rattle.std.proofs.Common.{◌≡◌, ℕ, zero, suc, ◌+◌, ◌-◌, ◌<◌, true, List, [], ◌∷◌, length, get_or, ap, ◌∙◌, subst, arith}
use Rattle.std.proofs.lemmas.List.{get_or_append_left, length-append}
use Rattle.std.proofs.Math.Seq.{get_or-append_right}
use Rattle.std.specs.List.{flat_map}
use Rattle.scale.specs.Rules.{Rules}
use Rattle.theory.specs.Problem.{Problem, Function, function, functions}
use Rattle.file.specs.Spelling.{AllEntries}

abbrev all : List Function → List ℕ
all tables = flat_map (λ (f : Function). f.words) tables

word_there : (tables : List Function) (f i : ℕ) → f < length tables → i < length (get_or tables f (record { scope = []; words = [] })).words →
    (k : ℕ) × (k < length (all tables)) × (get_or (all tables) k 0 ≡ get_or (get_or tables f (record { scope = []; words = [] })).words i 0)
word_there [] f i h low = absurd (omega arith)
word_there (t ∷ tables) zero i h low =
    let long = length-append t.words (all tables) in
    (i, omega arith, get_or_append_left t.words (all tables) 0 i low)
word_there (t ∷ tables) (suc f) i h low =
    let (k, below, is) = word_there tables f i (omega arith) low in
    let long = length-append t.words (all tables) in
    let same : length t.words + k - length t.words ≡ k = omega arith in (
      length t.words + k,
      omega arith,
      get_or-append_right t.words (all tables) (length t.words + k) 0 (omega arith) ∙ ap (λ (j : ℕ). get_or (all tables) j 0) same ∙ is,
    )

pub each_entry : {E : Type 0} (R : Rules E) (P : Problem) → AllEntries R P → (f i : ℕ) → f < functions P → i < length (function P f).words → R.entry (get_or (function P f).words i 0) ≡ true
each_entry R P entries f i h low =
    let (k, below, is) = word_there P.tables f i h low in
    subst (λ (w : ℕ). R.entry w ≡ true) is (entries k below)
