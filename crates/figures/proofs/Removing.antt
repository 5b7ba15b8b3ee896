-- The weights of the removed links, joined. Assumes nothing.
use Rattle.std.proofs.Common.{◌≡◌, ℕ, ◌*◌, ◌/◌, ◌%◌, ◌<◌, ◌≤◌, Bool, true, false, ◌&&◌, ltb, Some, None, Option, List, length, get_or, sym, ap, ◌∙◌, subst, arith}
use Rattle.std.proofs.lemmas.List.{get_or-map}
use Rattle.scale.specs.Rules.{Rules}
use Rattle.scale.specs.Laws.{EntryLaws}
use Rattle.theory.specs.Joins.{joins, when}
use Rattle.theory.specs.Graphs.{set_weight}
use Rattle.theory.specs.Links.{graph, is_link}
use Rattle.theory.proofs.Joins.{joins_cong}
use Rattle.forest.specs.FactorGraph.{layout_graph}
use Rattle.layout.specs.declared.layout.Layout.{Layout}
use Rattle.layout.specs.View.{domains_of, scopes_of}
use Rattle.keeping.specs.Weights.{weight_of}
use Rattle.joining.specs.Counts.{counts}
use Rattle.joining.specs.Standing.{StandsFor}
use Rattle.joining.proofs.Counting.{joins_bound}
use Rattle.joining.proofs.Joining.{stands_for, when_true, when_false}
use Rattle.tables.specs.declared.tables.Tables.{Tables}
use Rattle.tables.specs.View.{problem_of}
use Rattle.tables.proofs.Ordered.{scope_is, functions_length}
use Rattle.joining.specs.Given.{Gives, JoinOfGiven}
use Rattle.figures.specs.Removed.{is_removed, RemovedWeight}

module _ {V E : Type 0} (R : Rules E) (means : V → E) (within : ℕ → V → Type 0) (l : Layout) (words : List ℕ) (weights : List V)
    (long : length weights ≡ 256) (few : (n : ℕ) (d : V) → n < 256 → within 2 (get_or weights n d)) where
  -- what is given of a number is its part of the weight, of two entries
  member : (n : ℕ) (o : Option V) → n < 256 → RemovedWeight l words weights n o →
      Gives R means within (when R (is_removed l words n) (weight_of R means weights n)) (when counts (is_removed l words n) 2) o
  member n None low other = (when_false R (weight_of R means weights n) other, when_false counts 2 other)
  member n (Some r) low (removed, is) =
      stands_for R means within (sym (when_true R (weight_of R means weights n) removed)) (sym (when_true counts 2 removed)) (record {
        exact = ap means (is r) ∙ sym (get_or-map means weights n r R.neutral (omega arith));
        few = subst (within 2) (sym (is r)) (few n r low);
      })

  two_each : (b : Bool) → when counts b 2 ≤ 2
  two_each true = omega arith
  two_each false = omega arith

  -- Joined, they are the weight.
  pub weights_joined : EntryLaws R within → (gives : ℕ → Option V → Type 0) (r : V) (count : ℕ) → count ≤ 256 → JoinOfGiven R means within count gives r →
      ((n : ℕ) (o : Option V) → n < count → gives n o → RemovedWeight l words weights n o) →
      StandsFor means within (joins R count (λ n. when R (is_removed l words n) (weight_of R means weights n))) 512 r
  weights_joined ties gives r count small joined each =
      let bound = joins_bound count 2 (λ n. when counts (is_removed l words n) 2) (λ n h. two_each (is_removed l words n)) in
      let sum = joined (λ n. when R (is_removed l words n) (weight_of R means weights n)) (λ n. when counts (is_removed l words n) 2)
      (λ n o h given. member n o (omega arith) (each n o h given)) (omega arith) in
      record { exact = sum.exact; few = ties.wider (joins counts count (λ n. when counts (is_removed l words n) 2)) 512 r (omega arith) sum.few }

module _ {E : Type 0} (R : Rules E) (t : Tables) (w : ℕ → E) (S : ℕ → Bool) where
  -- the links of the layout are those of the problem
  present_is : (n : ℕ) → (layout_graph t.layout).present n ≡ is_link (problem_of t) n
  present_is n = ap (λ (s : List ℕ). ltb (n % 4) (length s)) (sym (scope_is t (n / 4)))

  -- a set of links weighs the same by the layout and by the problem
  pub weight_is : (n : ℕ) → n ≡ 4 * length (scopes_of t.layout) →
      joins R n (λ i. when R ((layout_graph t.layout).present i && S i) (w i)) ≡ set_weight R (graph (problem_of t)) w S
  weight_is n all =
      let l = t.layout in
      let long = functions_length (domains_of l) (scopes_of l) t.words in
      let end : n ≡ (graph (problem_of t)).links = omega arith in
      joins_cong R n (λ i h. ap (λ (b : Bool). when R (b && S i) (w i)) (present_is i))
      ∙ ap (λ (k : ℕ). joins R k (λ i. when R (is_link (problem_of t) i && S i) (w i))) end
