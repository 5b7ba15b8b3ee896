-- Tables with one more variable, with one more function and with another word, as problems. Assumes nothing.
use Rattle.std.proofs.Common.{◌≡◌, ℕ, zero, suc, ◌+◌, ◌-◌, ◌<◌, ◌≤◌, List, [], ◌∷◌, ◌++◌, length, get_or, take, drop, set, replicate, sum_by, refl, ap, ◌∙◌, ap₂, append_assoc, add_assoc, zero-add, arith, take-add}
use lib.Seq.{take-set-lt}
use Rattle.std.proofs.lemmas.List.{drop_at, drop-set-add, drop-set-lt, length-drop, length-replicate, length-take-le, take_at, take-set-le}
use Rattle.std.proofs.lemmas.List.Sums.{sum_by-cons, sum_by_push}
use Rattle.theory.specs.Problem.{Problem, Function}
use Rattle.theory.specs.Sizes.{combinations, EachScope, Known}
use Rattle.layout.specs.declared.layout.Layout.{Layout}
use Rattle.layout.specs.View.{domains_of, scopes_of, words_in, start_in}
use Rattle.layout.proofs.Shapes.{combinations_more}
use Rattle.tables.specs.declared.tables.Tables.{Tables}
use Rattle.tables.specs.View.{functions_from, problem_of, table_of}
use Rattle.tables.proofs.Ordered.{enough, table_is}
use Rattle.calls.specs.Step.{with_variable, with_function, with_word}

-- no scope names the new variable, so the tables are the same
functions_more : (domains : List ℕ) (s : ℕ) (scopes : List (List ℕ)) (ws : List ℕ) → EachScope (Known (length domains)) scopes →
    functions_from (domains ++ (s ∷ [])) scopes ws ≡ functions_from domains scopes ws
functions_more domains s [] ws known = refl
functions_more domains s (x ∷ scopes) ws known =
    let here = combinations_more domains s x (known 0 (omega arith)) in
    ap (λ (n : ℕ). record { scope = x; words = take n ws } ∷ functions_from (domains ++ (s ∷ [])) scopes (drop n ws)) here
    ∙ ap (λ (fs : List Function). record { scope = x; words = take (combinations domains x) ws } ∷ fs) (functions_more domains s scopes (drop (combinations domains x) ws) (λ f h. known (suc f) (omega arith)))

-- a table more, of one word, behind the words of the others
functions_push : (domains : List ℕ) (scopes : List (List ℕ)) (scope ws vs rest : List ℕ) (word : ℕ) → sum_by (combinations domains) scopes ≤ length ws →
    vs ≡ take (sum_by (combinations domains) scopes) ws ++ (replicate (combinations domains scope) word ++ rest) →
    functions_from domains (scopes ++ (scope ∷ [])) vs ≡ functions_from domains scopes ws ++ (record { scope = scope; words = replicate (combinations domains scope) word } ∷ [])
functions_push domains [] scope ws vs rest word enough is =
    let n = combinations domains scope in
    ap (λ (table : List ℕ). record { scope = scope; words = table } ∷ []) (ap (take n) is ∙ take_at (replicate n word) rest n (length-replicate n word))
functions_push domains (x ∷ scopes) scope ws vs rest word enough is =
    let c = combinations domains in
    let sum = sum_by-cons c x scopes in
    let new = replicate (c scope) word ++ rest in
    let first = length-take-le (c x) ws (omega arith) in
    let cut = length-drop (c x) ws in
    let parts : vs ≡ take (c x) ws ++ (take (sum_by c scopes) (drop (c x) ws) ++ new) =
    is ∙ ap (λ (n : ℕ). take n ws ++ new) sum ∙ ap (λ (xs : List ℕ). xs ++ new) (take-add (c x) (sum_by c scopes) ws)
    ∙ append_assoc (take (c x) ws) (take (sum_by c scopes) (drop (c x) ws)) new in
    let here : take (c x) vs ≡ take (c x) ws = ap (take (c x)) parts ∙ take_at (take (c x) ws) (take (sum_by c scopes) (drop (c x) ws) ++ new) (c x) first in
    let later : drop (c x) vs ≡ take (sum_by c scopes) (drop (c x) ws) ++ new = ap (drop (c x)) parts ∙ drop_at (take (c x) ws) (take (sum_by c scopes) (drop (c x) ws) ++ new) (c x) first in
    ap₂ (λ (table : List ℕ) (fs : List Function). record { scope = x; words = table } ∷ fs) here
    (functions_push domains scopes scope (drop (c x) ws) (drop (c x) vs) rest word (omega arith) later)

-- another word at an index of one table
functions_set : (domains : List ℕ) (scopes : List (List ℕ)) (ws : List ℕ) (f i word : ℕ) → f < length scopes → i < combinations domains (get_or scopes f []) →
    functions_from domains scopes (set ws (sum_by (combinations domains) (take f scopes) + i) word)
    ≡ set (functions_from domains scopes ws) f (record {
      scope = (get_or (functions_from domains scopes ws) f (record { scope = []; words = [] })).scope;
      words = set (get_or (functions_from domains scopes ws) f (record { scope = []; words = [] })).words i word;
    })
functions_set domains [] ws f i word known inside = absurd (omega arith)
functions_set domains (x ∷ scopes) ws zero i word known inside =
    let c = combinations domains in
    ap (λ (n : ℕ). functions_from domains (x ∷ scopes) (set ws n word)) (zero-add i)
    ∙ ap₂ (λ (table rest : List ℕ). record { scope = x; words = table } ∷ functions_from domains scopes rest) (take-set-lt (c x) ws i word inside) (drop-set-lt (c x) ws i word inside)
functions_set domains (x ∷ scopes) ws (suc f) i word known inside =
    let c = combinations domains in
    let start = sum_by c (take f scopes) in
    let at : sum_by c (x ∷ take f scopes) + i ≡ c x + (start + i) = ap (λ (n : ℕ). n + i) (sum_by-cons c x (take f scopes)) ∙ add_assoc (c x) start i in
    ap (λ (n : ℕ). functions_from domains (x ∷ scopes) (set ws n word)) at
    ∙ ap₂ (λ (table rest : List ℕ). record { scope = x; words = table } ∷ functions_from domains scopes rest) (take-set-le (c x) ws (c x + (start + i)) word (omega arith)) (drop-set-add (c x) ws (start + i) word)
    ∙ ap (λ (fs : List Function). record { scope = x; words = take (c x) ws } ∷ fs) (functions_set domains scopes (drop (c x) ws) f i word (omega arith) inside)

-- a new table has a word for each combination
pub new_words : (l m : Layout) (scope : List ℕ) → domains_of m ≡ domains_of l → scopes_of m ≡ scopes_of l ++ (scope ∷ []) → words_in m ≡ words_in l + combinations (domains_of l) scope
new_words l m scope domains scopes =
    ap₂ (λ (ds : List ℕ) (ss : List (List ℕ)). sum_by (combinations ds) ss) domains scopes ∙ sum_by_push (combinations (domains_of l)) (scopes_of l) scope

-- the problem of a layout and words
abbrev problem_from : Layout → List ℕ → Problem
problem_from l ws = record { domains = domains_of l; tables = functions_from (domains_of l) (scopes_of l) ws }

-- Tables t, and a layout and words that differ from them as said.
module _ (t : Tables) (m : Layout) (ws : List ℕ) where
  open t use {layout as l}

  pub variable_added : (s : ℕ) → domains_of m ≡ domains_of l ++ (s ∷ []) → scopes_of m ≡ scopes_of l → ws ≡ t.words → problem_from m ws ≡ with_variable (problem_of t) s
  variable_added s domains scopes words =
      let ds = domains_of l ++ (s ∷ []) in
      ap₂ (λ (ds : List ℕ) (ss : List (List ℕ)). record { domains = ds; tables = functions_from ds ss ws }) domains scopes
      ∙ ap (λ (vs : List ℕ). record { domains = ds; tables = functions_from ds (scopes_of l) vs }) words
      ∙ ap (λ (fs : List Function). record { domains = ds; tables = fs }) (functions_more (domains_of l) s (scopes_of l) t.words l.known)

  pub function_added : (scope rest : List ℕ) (word : ℕ) → domains_of m ≡ domains_of l → scopes_of m ≡ scopes_of l ++ (scope ∷ []) →
      ws ≡ take (words_in l) t.words ++ (replicate (words_in m - words_in l) word ++ rest) →
      problem_from m ws ≡ with_function (problem_of t) scope word
  function_added scope rest word domains scopes words =
      let more = new_words l m scope domains scopes in
      let count : words_in m - words_in l ≡ combinations (domains_of l) scope = omega arith in
      let is = words ∙ ap (λ (n : ℕ). take (words_in l) t.words ++ (replicate n word ++ rest)) count in
      ap₂ (λ (ds : List ℕ) (ss : List (List ℕ)). record { domains = ds; tables = functions_from ds ss ws }) domains scopes
      ∙ ap (λ (fs : List Function). record { domains = domains_of l; tables = fs }) (functions_push (domains_of l) (scopes_of l) scope t.words ws rest word (enough t) is)

-- Tables t with another word at an index of a table.
pub entry_set : (t : Tables) (f i word : ℕ) (ws : List ℕ) → f < length (scopes_of t.layout) → i < length (table_of t f) → ws ≡ set t.words (start_in t.layout f + i) word →
    problem_from t.layout ws ≡ with_word (problem_of t) f i word
entry_set t f i word ws known inside words =
    let l = t.layout in
    let long = table_is t f known in
    ap (problem_from l) words
    ∙ ap (λ (fs : List Function). record { domains = domains_of l; tables = fs }) (functions_set (domains_of l) (scopes_of l) t.words f i word known (omega arith))
