-- No accepted add or set leaves the sizes. Assumes nothing.
use Rattle.std.proofs.Common.{◌≡◌, ℕ, zero, suc, ◌+◌, ◌<◌, ◌≤◌, ◌≢◌, List, [], ◌∷◌, ◌++◌, map, length, get_or, set, replicate, sym, refl, ap, ◌∙◌, subst, inl, inr, ⊎_elim, arith}
use Rattle.std.proofs.lemmas.Bool.{cases_lt, cases_eq, cases_order}
use Rattle.std.proofs.lemmas.List.{get_or_append_left, get_or_push, length_push, length-set, get_or-set_same, get_or-set_other, length-replicate}
use Rattle.scale.specs.Rules.{Rules}
use Rattle.theory.specs.Problem.{Problem, Function, no_problem, variables, functions, size, function, scope_of, at, product}
use Rattle.theory.specs.Sizes.{Fits, all_words, combinations}
use Rattle.theory.proofs.Plans.{map_same}
use Rattle.calls.specs.State.{State, Call}
use Rattle.calls.specs.Step.{Accepted, Begins, unreported, with_variable, with_function, with_word}

-- What a function owes to n variables of given sizes.
record Good (n : ℕ) (sizes : ℕ → ℕ) (g : Function) : Type 0 where
  some : 1 ≤ length g.scope
  four : length g.scope ≤ 4
  known : (p : ℕ) → p < length g.scope → get_or g.scope p 0 < n
  distinct : (p q : ℕ) → p < length g.scope → q < length g.scope → get_or g.scope p 0 ≡ get_or g.scope q 0 → p ≡ q
  full : length g.words ≡ product (map sizes g.scope)
  small : length g.words ≤ 1024

good_of : (P : Problem) → Fits P → (f : ℕ) → f < functions P → Good (variables P) (size P) (function P f)
unfolding at scope_of
good_of P fits f k = record {
  some = fits.sound.some_place f k;
  four = fits.sound.four_places f k;
  known = λ p h. fits.sound.known f p k h;
  distinct = λ p q h i e. fits.sound.distinct f p q k h i e;
  full = fits.sound.full f k;
  small = fits.small_tables f k;
}

fits_of : (P : Problem) → ((v : ℕ) → v < variables P → (1 ≤ size P v) × (size P v ≤ 16)) → variables P ≤ 64 → functions P ≤ 64 →
    ((f : ℕ) → f < functions P → Good (variables P) (size P) (function P f)) → all_words P.tables ≤ 4096 → Fits P
unfolding at scope_of
fits_of P domains few_variables few_functions good few_words = record {
  sound = record {
    nonempty = λ v k. (domains v k).0;
    some_place = λ f k. (good f k).some;
    four_places = λ f k. (good f k).four;
    known = λ f p k h. (good f k).known p h;
    distinct = λ f p q k h i e. (good f k).distinct p q h i e;
    full = λ f k. (good f k).full;
  };
  few_variables = few_variables;
  small_domains = λ v k. (domains v k).1;
  few_functions = few_functions;
  small_tables = λ f k. (good f k).small;
  few_words = few_words;
}

-- over more variables, of the same sizes where they were
good_over : (n n' : ℕ) (sizes sizes' : ℕ → ℕ) (g : Function) → n ≤ n' → ((v : ℕ) → v < n → sizes' v ≡ sizes v) → Good n sizes g → Good n' sizes' g
good_over n n' sizes sizes' g more same good = record {
  some = good.some;
  four = good.four;
  known = λ p h. let k = good.known p h in omega arith;
  distinct = good.distinct;
  full = good.full ∙ ap product (sym (map_same sizes' sizes g.scope (λ p h. same (get_or g.scope p 0) (good.known p h))));
  small = good.small;
}

all_words_push : (fs : List Function) (g : Function) → all_words (fs ++ (g ∷ [])) ≡ all_words fs + length g.words
unfolding all_words
all_words_push [] g = omega arith
all_words_push (f ∷ fs) g = let rest = all_words_push fs g in omega arith

all_words_set : (fs : List Function) (f : ℕ) (g d : Function) → f < length fs → length g.words ≡ length (get_or fs f d).words → all_words (set fs f g) ≡ all_words fs
unfolding all_words
all_words_set [] f g d k e = absurd (omega arith)
all_words_set (h ∷ fs) zero g d k e = ap (λ (n : ℕ). n + all_words fs) e
all_words_set (h ∷ fs) (suc f) g d k e = ap (λ (n : ℕ). length h.words + n) (all_words_set fs f g d (omega arith) e)

module _ {E : Type 0} (R : Rules E) (s : State E) (fits : Fits s.problem) where
  abbrev P : Problem
  P = s.problem

  domains_fit : (v : ℕ) → v < variables P → (1 ≤ size P v) × (size P v ≤ 16)
  domains_fit v k = (fits.sound.nonempty v k, fits.small_domains v k)

  pub variable_fits : (d : ℕ) → Accepted R s (Call.add_variable d) → Fits (with_variable P d)
  unfolding size
  variable_fits d ok =
      let P' = with_variable P d in
      let some : d < 1 → ⊥ = λ h. ok.0 (inl h) in
      let few : 16 < d → ⊥ = λ h. ok.0 (inr h) in
      let room : 64 ≤ variables P → ⊥ = ok.1.0 in
      let longer = length_push P.domains d in
      let same : (v : ℕ) → v < variables P → size P' v ≡ size P v = λ v k. get_or_append_left P.domains (d ∷ []) 0 v k in
      let last : (v : ℕ) → length P.domains ≡ v → size P' v ≡ d = λ v e. get_or_push P.domains d 0 v e in
      fits_of P'
      (λ v k. ⊎_elim
      (λ (old : v < variables P). subst (λ (n : ℕ). (1 ≤ n) × (n ≤ 16)) (sym (same v old)) (domains_fit v old))
      (λ (new : variables P ≤ v). subst (λ (n : ℕ). (1 ≤ n) × (n ≤ 16)) (sym (last v (omega arith))) (omega arith, omega arith))
      (cases_lt v (variables P)))
      (omega arith)
      fits.few_functions
      (λ f k. good_over (variables P) (variables P') (size P) (size P') (function P f) (omega arith) same (good_of P fits f k))
      fits.few_words

  pub function_fits : (scope : List ℕ) (word : ℕ) → Accepted R s (Call.add_function scope) → Fits (with_function P scope word)
  unfolding size
  function_fits scope word ok =
      let P' = with_function P scope word in
      let new : Function = record { scope = scope; words = replicate (combinations P.domains scope) word } in
      let some : length scope < 1 → ⊥ = λ h. ok.0 (inl h) in
      let four : 4 < length scope → ⊥ = λ h. ok.0 (inr h) in
      let small : 1024 < combinations P.domains scope → ⊥ = λ h. ok.1.1.1.1.0 (inl h) in
      let room : 4096 < all_words P.tables + combinations P.domains scope → ⊥ = λ h. ok.1.1.1.1.0 (inr h) in
      let free : 64 ≤ functions P → ⊥ = ok.1.1.1.0 in
      let words = length-replicate (combinations P.domains scope) word in
      let longer = length_push P.tables new in
      let good : Good (variables P) (size P) new = record {
        some = omega arith;
        four = omega arith;
        known = λ p h. ⊎_elim (λ k. k) (λ (out : variables P ≤ get_or scope p 0). absurd (ok.1.0 (p, h, out))) (cases_lt (get_or scope p 0) (variables P));
        distinct = λ p q h i e. ⊎_elim (λ same. same) (⊎_elim (λ (lt : p < q). absurd (ok.1.1.0 (p, q, lt, i, e))) (λ (gt : q < p). absurd (ok.1.1.0 (q, p, gt, h, sym e)))) (cases_order p q);
        full = words;
        small = omega arith;
      } in
      fits_of P'
      domains_fit
      fits.few_variables
      (omega arith)
      (λ f k. good_over (variables P) (variables P') (size P) (size P') (function P' f) (omega arith) (λ v h. refl)
      (⊎_elim
      (λ (old : f < functions P). subst (Good (variables P) (size P)) (sym (get_or_append_left P.tables (new ∷ []) _ f old)) (good_of P fits f old))
      (λ (end : functions P ≤ f). subst (Good (variables P) (size P)) (sym (get_or_push P.tables new _ f (omega arith))) good)
      (cases_lt f (functions P))))
      (let total = all_words_push P.tables new in omega arith)

  pub word_fits : (f i word : ℕ) → Accepted R s (Call.set_entry f i word) → Fits (with_word P f i word)
  unfolding size
  word_fits f i word ok =
      let P' = with_word P f i word in
      let new : Function = record { scope = (function P f).scope; words = set (function P f).words i word } in
      let there : functions P ≤ f → ⊥ = ok.0 in
      let known : f < functions P = omega arith in
      let as_long : length new.words ≡ length (function P f).words = length-set (function P f).words i word in
      let old = good_of P fits f known in
      let good : Good (variables P) (size P) new = record { some = old.some; four = old.four; known = old.known; distinct = old.distinct; full = as_long ∙ old.full; small = let h = old.small in omega arith } in
      let as_many = length-set P.tables f new in
      fits_of P'
      domains_fit
      fits.few_variables
      (let few = fits.few_functions in omega arith)
      (λ h k. good_over (variables P) (variables P') (size P) (size P') (function P' h) (omega arith) (λ v h. refl)
      (⊎_elim
      (λ (here : h ≡ f). subst (λ (j : ℕ). Good (variables P) (size P) (function P' j)) (sym here) (subst (Good (variables P) (size P)) (sym (get_or-set_same P.tables f new _ known)) good))
      (λ (other : h ≢ f). subst (Good (variables P) (size P)) (sym (get_or-set_other P.tables f h new _ other)) (good_of P fits h (omega arith)))
      (cases_eq h f)))
      (let total = all_words_set P.tables f new _ known as_long in let few = fits.few_words in omega arith)

pub empty_begins : {E : Type 0} (R : Rules E) → Begins R (unreported no_problem)
unfolding all_words
empty_begins R = record {
  fits = fits_of no_problem (λ v k. absurd (omega arith)) (omega arith) (omega arith) (λ f k. absurd (omega arith)) (omega arith);
  entries = λ f i k h. absurd (omega arith);
  unreported = refl;
}
