-- The functions whose tables lie one after the other. Assumes nothing.
use Rattle.std.proofs.Common.{◌≡◌, ℕ, zero, suc, ◌+◌, ◌-◌, ◌<◌, ◌≤◌, List, [], ◌∷◌, ◌++◌, map, length, get_or, take, drop, sum_by, sym, refl, ap, ◌∙◌, subst, arith, take-add}
use Rattle.std.proofs.lemmas.List.{drop-drop, length-drop, length-take-le}
use Rattle.std.proofs.lemmas.List.Sums.{sum_by-cons, sum_by_more, sum_by-take-le}
use Rattle.std.specs.List.{flat_map}
use Rattle.theory.specs.Problem.{Function, words_in_order, functions, size, scope_of, at, function, product, index, position, Sound}
use Rattle.theory.specs.Sizes.{Fits, combinations, all_words}
use Rattle.layout.proofs.Shapes.{few_variables, few_functions, distinct_here}
use Rattle.layout.specs.Scopes.{sizes_of, values_of}
use Rattle.layout.specs.View.{domains_of, scopes_of, scope_in, words_in, start_in}
use Rattle.tables.specs.declared.tables.Tables.{Tables}
use Rattle.tables.specs.View.{functions_from, problem_of, table_of}

-- the words of one function after another are the first words
joined_is : (domains : List ℕ) (scopes : List (List ℕ)) (ws : List ℕ) → flat_map (λ (f : Function). f.words) (functions_from domains scopes ws) ≡ take (sum_by (combinations domains) scopes) ws
joined_is domains [] ws = refl
joined_is domains (s ∷ scopes) ws =
    ap (λ (xs : List ℕ). take (combinations domains s) ws ++ xs) (joined_is domains scopes (drop (combinations domains s) ws))
    ∙ sym (take-add (combinations domains s) (sum_by (combinations domains) scopes) ws)
    ∙ ap (λ (n : ℕ). take n ws) (sym (sum_by-cons (combinations domains) s scopes))

pub in_order : (t : Tables) → words_in_order (problem_of t) ≡ take (words_in t.layout) t.words
in_order t = joined_is (domains_of t.layout) (scopes_of t.layout) t.words

pub functions_length : (domains : List ℕ) (scopes : List (List ℕ)) (ws : List ℕ) → length (functions_from domains scopes ws) ≡ length scopes
functions_length domains [] ws = refl
functions_length domains (s ∷ scopes) ws = ap suc (functions_length domains scopes (drop (combinations domains s) ws))

pub scope_from : (domains : List ℕ) (scopes : List (List ℕ)) (ws : List ℕ) (f : ℕ) → (get_or (functions_from domains scopes ws) f (record { scope = []; words = [] })).scope ≡ get_or scopes f []
scope_from domains [] ws f = refl
scope_from domains (s ∷ scopes) ws zero = refl
scope_from domains (s ∷ scopes) ws (suc f) = scope_from domains scopes (drop (combinations domains s) ws) f

-- each table has a word for each combination, where there are words enough
pub table_from : (domains : List ℕ) (scopes : List (List ℕ)) (ws : List ℕ) (f : ℕ) → f < length scopes → sum_by (combinations domains) scopes ≤ length ws →
    length (get_or (functions_from domains scopes ws) f (record { scope = []; words = [] })).words ≡ combinations domains (get_or scopes f [])
table_from domains [] ws f h enough = absurd (omega arith)
table_from domains (s ∷ scopes) ws zero h enough = let sum = sum_by-cons (combinations domains) s scopes in length-take-le (combinations domains s) ws (omega arith)
table_from domains (s ∷ scopes) ws (suc f) h enough =
    let sum = sum_by-cons (combinations domains) s scopes in
    let rest = length-drop (combinations domains s) ws in
    table_from domains scopes (drop (combinations domains s) ws) f (omega arith) (omega arith)

-- each table begins where the tables before it end
words_at : (domains : List ℕ) (scopes : List (List ℕ)) (ws : List ℕ) (f : ℕ) → f < length scopes →
    (get_or (functions_from domains scopes ws) f (record { scope = []; words = [] })).words ≡ take (combinations domains (get_or scopes f [])) (drop (sum_by (combinations domains) (take f scopes)) ws)
words_at domains [] ws f h = absurd (omega arith)
words_at domains (s ∷ scopes) ws zero h = refl
words_at domains (s ∷ scopes) ws (suc f) h =
    let c = combinations domains in
    words_at domains scopes (drop (c s) ws) f (omega arith)
    ∙ ap (take (c (get_or scopes f []))) (drop-drop (sum_by c (take f scopes)) (c s) ws ∙ ap (λ (n : ℕ). drop n ws) (sym (sum_by-cons c s (take f scopes))))

pub words_from : (domains : List ℕ) (scopes : List (List ℕ)) (ws : List ℕ) → sum_by (combinations domains) scopes ≤ length ws →
    all_words (functions_from domains scopes ws) ≡ sum_by (combinations domains) scopes
unfolding all_words
words_from domains [] ws enough = refl
words_from domains (s ∷ scopes) ws enough =
    let sum = sum_by-cons (combinations domains) s scopes in
    let cut = length-drop (combinations domains s) ws in
    let rest = words_from domains scopes (drop (combinations domains s) ws) (omega arith) in
    let first = length-take-le (combinations domains s) ws (omega arith) in
    omega arith

pub scopes_from : (domains : List ℕ) (scopes : List (List ℕ)) (ws : List ℕ) → map (λ (f : Function). f.scope) (functions_from domains scopes ws) ≡ scopes
scopes_from domains [] ws = refl
scopes_from domains (s ∷ scopes) ws = ap (λ (ss : List (List ℕ)). s ∷ ss) (scopes_from domains scopes (drop (combinations domains s) ws))

module _ (t : Tables) where
  open t use {layout as l}

  pub scope_is : (f : ℕ) → scope_of (problem_of t) f ≡ get_or (scopes_of l) f []
  unfolding scope_of
  scope_is f = scope_from (domains_of l) (scopes_of l) t.words f

  -- a plan's place in a table, by the layout and by the problem
  pub position_is : (plan : List ℕ) (f : ℕ) → index (sizes_of (domains_of l) (scope_in l f)) (values_of plan (scope_in l f)) ≡ position (problem_of t) f (λ v. get_or plan v 0)
  unfolding position size
  position_is plan f = ap (λ (s : List ℕ). index (sizes_of (domains_of l) s) (values_of plan s)) (sym (scope_is f))

  pub there : (f : ℕ) → f < functions (problem_of t) → f < length (scopes_of l)
  there f h = let long = functions_length (domains_of l) (scopes_of l) t.words in omega arith

  -- what holds of each scope of the layout holds of each scope of the problem
  at_scope : (Q : List ℕ → Type 0) (f : ℕ) → Q (get_or (scopes_of l) f []) → Q (scope_of (problem_of t) f)
  at_scope Q f = subst Q (sym (scope_is f))

  pub enough : words_in l ≤ length t.words
  enough = let few = l.few in let room = t.room in omega arith

  pub table_is : (f : ℕ) → f < length (scopes_of l) → length (function (problem_of t) f).words ≡ combinations (domains_of l) (get_or (scopes_of l) f [])
  table_is f h = table_from (domains_of l) (scopes_of l) t.words f h enough

  -- a table has as many words as there are combinations, up to where the next one begins
  pub table_end : (f : ℕ) → f < length (scopes_of l) → start_in l (f + 1) ≡ start_in l f + combinations (domains_of l) (get_or (scopes_of l) f [])
  table_end f h = sum_by_more (combinations (domains_of l)) (scopes_of l) f [] h

  pub table_within : (f : ℕ) → f < length (scopes_of l) → (start_in l f ≤ start_in l (f + 1)) × (start_in l (f + 1) ≤ 4096)
  table_within f h =
      let first = sum_by-take-le (combinations (domains_of l)) (scopes_of l) (f + 1) in
      let few = l.few in
      (omega (arith, table_end f h), omega arith)

  pub table_at : (f : ℕ) → f < length (scopes_of l) → take (start_in l (f + 1) - start_in l f) (drop (start_in l f) t.words) ≡ table_of t f
  table_at f h =
      let long : start_in l (f + 1) - start_in l f ≡ combinations (domains_of l) (get_or (scopes_of l) f []) = omega (arith, table_end f h) in
      ap (λ (n : ℕ). take n (drop (start_in l f) t.words)) long ∙ sym (words_at (domains_of l) (scopes_of l) t.words f h)

  sound : Sound (problem_of t)
  unfolding at size
  sound = record {
    nonempty = λ v h. (l.sizes v h).0;
    some_place = λ f h. at_scope (λ s. 1 ≤ length s) f (l.places f (there f h)).0;
    four_places = λ f h. at_scope (λ s. length s ≤ 4) f (l.places f (there f h)).1;
    known = λ f p h. at_scope (λ s. p < length s → get_or s p 0 < length (domains_of l)) f (l.known f (there f h) p);
    distinct = λ f p q h. at_scope (λ s. p < length s → q < length s → get_or s p 0 ≡ get_or s q 0 → p ≡ q) f (distinct_here l f p q (there f h));
    full = λ f h. at_scope (λ s. length (function (problem_of t) f).words ≡ product (map (size (problem_of t)) s)) f (table_is f (there f h));
  }

  pub within_sizes : Fits (problem_of t)
  unfolding size
  within_sizes = record {
    sound = sound;
    few_variables = few_variables l;
    small_domains = λ v h. (l.sizes v h).1;
    few_functions = let few = few_functions l in let count = functions_length (domains_of l) (scopes_of l) t.words in omega arith;
    small_tables = λ f h. subst (λ (n : ℕ). n ≤ 1024) (sym (table_is f (there f h))) (l.small f (there f h));
    few_words = subst (λ (n : ℕ). n ≤ 4096) (sym (words_from (domains_of l) (scopes_of l) t.words enough)) l.few;
  }
