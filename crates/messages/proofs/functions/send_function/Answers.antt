use Rattle.std.proofs.Common.{◌≡◌, ℕ, Bool, ◌<◌, ◌≤◌, List, length, take, sym, ap, ◌∙◌, subst, arith}
use Rattle.theory.specs.Problem.{product, functions, function}
use Rattle.theory.specs.Forest.{Hanging}
use Rattle.tables.specs.declared.tables.Tables.{Tables}
use Rattle.tables.specs.View.{problem_of}
use Rattle.tables.proofs.Ordered.{within_sizes}
use Rattle.messages.specs.declared.places.Places.{Places}
use Rattle.messages.specs.Places.{PlacesOf, CutWords, sizes_in}
use Rattle.messages.specs.Rooted.{problem_in, kept_in, hanging_in}
use Rattle.messages.specs.Sent.{function_cell, choice_cell}
use Rattle.messages.specs.Upward.{Chosen, OnlyAt}
use Rattle.messages.proofs.CutPositions.{table_full}
use Rattle.messages.proofs.FunctionSent.{function_sent}
use Rattle.messages.proofs.OfPlaces.{sizes_are, parent_place, parent_size}
use Rattle.messages.proofs.functions.send_function.Goals as goal

-- a table of a problem has at most 1,024 words
table_small : (t : Tables) (f : ℕ) (words : List ℕ) → f < functions (problem_of t) → words ≡ (function (problem_of t) f).words → length words ≤ 1024
table_small t f words known is = omega (arith, ap length is, (within_sizes t).small_tables f known)

-- and as many as there are combinations of its places
table_length : (t : Tables) (kept : ℕ → Bool) (H : Hanging) (f : ℕ) (s : Places) (of : PlacesOf (problem_of t) kept H f s) (words : List ℕ) → f < functions (problem_of t) →
    words ≡ (function (problem_of t) f).words → length words ≡ product (sizes_in s)
table_length t kept H f s of words known is =
    ap length is ∙ table_full (problem_of t) (within_sizes t).sound f known ∙ sym (ap product (sizes_are (problem_of t) kept H f s of))

pub send_table-requires : goal.send_table-requires
send_table-requires g c =
    let forest = c.args.forest.now in
    let f = c.args.function in
    let table = c.table-table.result.now in
    record {
      function = omega (arith, c.requires.function, (within_sizes forest.tables.now).few_functions);
      table = table_length forest.tables.now (kept_in forest) (hanging_in forest) f c.of-places.result c.of-places.ensures table c.requires.function c.table-table.ensures;
      small = table_small forest.tables.now f table c.requires.function c.table-table.ensures;
      parent = parent_place (problem_in forest) (kept_in forest) (hanging_in forest) f c.of-places.result c.of-places.ensures c.requires.function c.requires.rooted.well;
      values = c.requires.values;
      choices = c.requires.choices;
    }

pub returns : goal.returns
returns g c =
    let v = g.V.Scale in
    let forest = c.args.forest.now in
    let P = problem_in forest in
    let kept = kept_in forest in
    let H = hanging_in forest in
    let f = c.args.function in
    let s = c.of-places.result in
    let of = c.of-places.ensures in
    let told = c.send_table.ensures in
    let after = c.send_table.new.values in
    let wide = parent_size P kept H f s of c.requires.function c.requires.rooted.well in
    record {
      sent = λ cut is_cut m n below.
          let (cuts, long, laid, (row, best, chosen)) = told.sent in
          function_sent v.rules g.met.V.Scale.laws v.means v.within P (within_sizes forest.tables.now) kept H c.requires.rooted.well f c.requires.function s of cuts
          (subst (λ (table : List ℕ). CutWords v.rules s table cuts) c.table-table.ensures laid) (long ∙ ap length c.table-table.ensures) cut is_cut m n c.args.values.now.cells.now below
          row after.cells.now c.send_table.new.choices.cells.now (let whole = after.whole in omega (arith, told.same.0.rows, c.requires.values)) best
          (subst (λ (n : ℕ). Chosen (take n row) f c.send_table.new.choices.cells.now) wide chosen);
      values = subst (λ (n : ℕ). OnlyAt (λ k. (x : ℕ) × (x < n) × (k ≡ function_cell f x)) c.args.values.now.cells.now after.cells.now) wide told.values;
      choices = subst (λ (n : ℕ). OnlyAt (λ k. (x : ℕ) × (x < n) × (k ≡ choice_cell f x)) c.args.choices.now.cells.now c.send_table.new.choices.cells.now) wide told.choices;
      same = told.same;
    }
