-- A call has an answer. Assumes nothing.
use Rattle.std.proofs.Common.{◌≡◌, ℕ, ◌+◌, ◌<◌, ◌≤◌, Bool, true, false, ltb, ◌≢◌, ◌⊎◌, List, [], ◌∷◌, length, get_or, Some, None, Option, refl, inl, inr, ⊎_elim, arith}
use Rattle.std.proofs.lemmas.Bool.{cases_eq, cases_lt, cases_Bool, both_ways}
use Rattle.scale.specs.Rules.{Rules}
use Rattle.scale.specs.Laws.{Plain}
use Rattle.theory.specs.Problem.{Problem, variables, functions, size, function, arity}
use Rattle.theory.specs.Graphs.{Graph, Whole, Joined, Cycle, every, without}
use Rattle.theory.specs.Links.{graph}
use Rattle.theory.proofs.Labels.{decide_joined}
use Rattle.theory.proofs.Parts.{part, number_order}
use Rattle.theory.proofs.Weighed.{graph_whole}
use Rattle.theory.proofs.TablesExist.{some_weights}
use Rattle.theory.proofs.Search.{First, first_below}
use Rattle.theory.specs.Sizes.{Fits, all_words, combinations}
use Rattle.theory.specs.KeptBy.{Rule, straight, bounded}
use Rattle.theory.specs.Refusals as told
use Rattle.theory.specs.Refusals.{NoneFits}
use Rattle.rules.specs.Figures.{Figures, Stores}
use Rattle.rules.specs.Report.{Solved}
use Rattle.rules.proofs.ReportExists.{some_report}
use Rattle.calls.specs.State.{Standing, State, Call, Answer, add_variable, add_function, set_entry, solve, weight}
use Rattle.calls.specs.Tests.{tests}
use Rattle.calls.specs.Step.{Step}

abbrev Decided : Type 0 → Type 0
Decided A = A ⊎ (A → ⊥)

abbrev AllDecided : List (ℕ × Type 0) → Type 0
AllDecided [] = Unit {0}
AllDecided (t ∷ ts) = Decided t.1 × AllDecided ts

-- where each test can be decided, one fits first, or none
first_or_none : (ts : List (ℕ × Type 0)) → AllDecided ts → ((n : ℕ) × told.First ts n) ⊎ NoneFits ts
first_or_none [] d = inr tt
first_or_none (t ∷ ts) d = go d.0 (first_or_none ts d.1)
  where
    go : Decided t.1 → ((n : ℕ) × told.First ts n) ⊎ NoneFits ts → ((n : ℕ) × told.First (t ∷ ts) n) ⊎ NoneFits (t ∷ ts)
    go (inl a) rest = inl (t.0, inl (a, refl))
    go (inr no-fit) (inl (n, first)) = inl (n, inr (no-fit, first))
    go (inr no-fit) (inr none) = inr (no-fit, none)

decide_le : (a b : ℕ) → Decided (a ≤ b)
decide_le a b = ⊎_elim (λ (h : b < a). inr (λ k. omega arith)) (λ (h : a ≤ b). inl h) (cases_lt b a)

decide_not : {A : Type 0} → Decided A → Decided (A → ⊥)
decide_not (inl a) = inr (λ f. f a)
decide_not (inr f) = inl f

decide_or : {A B : Type 0} → Decided A → Decided B → Decided (A ⊎ B)
decide_or (inl a) d = inl (inl a)
decide_or (inr n) (inl b) = inl (inr b)
decide_or (inr n) (inr m) = inr (λ s. ⊎_elim n m s)

decide_lengths : (values choices : ℕ) → Decided ((values ≢ 2304) ⊎ (choices ≢ 1024))
decide_lengths values choices = decide_or (decide_not (cases_eq values 2304)) (decide_not (cases_eq choices 1024))

decide_lt : (a b : ℕ) → Decided (a < b)
decide_lt a b = ⊎_elim (λ (h : a < b). inl h) (λ (h : b ≤ a). inr (λ k. omega arith)) (cases_lt a b)

decide_false : (b : Bool) → Decided (b ≡ false)
decide_false b = ⊎_elim (λ e. inr (λ f. both_ways b f e)) inl (cases_Bool b)

decide_none : {A : Type 0} (o : Option A) → Decided (o ≡ None)
decide_none None = inl refl
decide_none (Some a) = inr (λ e. let z : ◌≡◌ {A = ℕ} 0 1 = cc in omega arith)

-- whether some number below n has a property that can be decided
decide_some : (D : ℕ → Type 0) → ((i : ℕ) → Decided (D i)) → (n : ℕ) → Decided ((i : ℕ) × (i < n) × D i)
decide_some D decide n = ⊎_elim (λ found. inl (found.0, found.1, found.2.has)) (λ none. inr (λ s. none s.0 s.1 s.2)) (first_below D decide n)

decide_cycle : (G : Graph) → Whole G → Decided (Cycle G every)
decide_cycle G whole = go (first_below Closes decide G.links)
  where
    Closes : ℕ → Type 0
    Closes n = (G.present n ≡ true) × Joined G (without n every) (G.left n) (G.right n)

    decide : (n : ℕ) → Decided (Closes n)
    decide n = ⊎_elim
        (λ there. ⊎_elim (λ j. inl (there, j)) (λ apart. inr (λ c. apart c.1)) (decide_joined (G.left n) (G.right n) (part G ltb whole number_order (without n every)).labels))
        (λ absent. inr (λ c. both_ways (G.present n) absent c.0))
        (cases_Bool (G.present n))

    go : ((n : ℕ) × (n < G.links) × First Closes n) ⊎ ((n : ℕ) → n < G.links → Closes n → ⊥) → Decided (Cycle G every)
    go (inl found) = inl record { link = found.0; uses = record { below = found.1; there = found.2.has.0; chosen = refl }; around = found.2.has.1 }
    go (inr none) = inr (λ c. none c.link c.uses.below (c.uses.there, c.around))

module _ {E : Type 0} (R : Rules E) (L : Plain R) (s : State E) (fits : Fits s.problem) where
  abbrev P : Problem
  P = s.problem

  decide_scope : (scope : List ℕ) → Decided ((p q : ℕ) × (p < q) × (q < length scope) × (get_or scope p 0 ≡ get_or scope q 0))
  decide_scope scope = go (decide_some (λ q. (p : ℕ) × (p < q) × (get_or scope p 0 ≡ get_or scope q 0)) (λ q. decide_some (λ p. get_or scope p 0 ≡ get_or scope q 0) (λ p. cases_eq (get_or scope p 0) (get_or scope q 0)) q) (length scope))
    where
      go : Decided ((q : ℕ) × (q < length scope) × ((p : ℕ) × (p < q) × (get_or scope p 0 ≡ get_or scope q 0))) → Decided ((p q : ℕ) × (p < q) × (q < length scope) × (get_or scope p 0 ≡ get_or scope q 0))
      go (inl (q, h, (p, k, e))) = inl (p, q, k, h, e)
      go (inr none) = inr (λ t. none (t.1, t.3, (t.0, t.2, t.4)))

  decided : (call : Call) → AllDecided (tests R s call)
  decided (add_variable d) = (decide_or (decide_lt d 1) (decide_lt 16 d), (decide_le 64 (variables P), tt))
  decided (add_function scope) = (
    decide_or (decide_lt (length scope) 1) (decide_lt 4 (length scope)),
    (
      decide_some (λ p. variables P ≤ get_or scope p 0) (λ p. decide_le (variables P) (get_or scope p 0)) (length scope),
      (
        decide_scope scope,
        (
          decide_le 64 (functions P),
          (decide_or (decide_lt 1024 (combinations P.domains scope)) (decide_lt 4096 (all_words P.tables + combinations P.domains scope)), tt),
        ),
      ),
    ),
  )
  decided (set_entry f index word) = (decide_le (functions P) f, (decide_le (length (function P f).words) index, (decide_false (R.entry word), tt)))
  decided (solve straight values choices) = (decide_lengths values choices, (cases_eq (variables P) 0, (decide_cycle (graph P) (graph_whole P fits.sound), tt)))
  decided (solve bounded values choices) = (decide_lengths values choices, (cases_eq (variables P) 0, tt))
  decided Call.report = (decide_none s.report, tt)
  decided (Call.score values) = (decide_not (cases_eq (length values) (variables P)), (decide_some (λ v. size P v ≤ get_or values v 0) (λ v. decide_le (size P v) (get_or values v 0)) (variables P), tt))
  decided (weight f p) = (decide_le (functions P) f, (decide_le (arity P f) p, tt))

  abbrev Answered : Call → Type 0
  Answered call = (answer : Answer E) × (t : State E) × Step R s call answer t

  solved_how : (rule : Rule) (values choices : ℕ) → NoneFits (tests R s (solve rule values choices)) → (figures : Figures E) × (stores : Stores E) × Solved R P rule figures stores
  solved_how straight values choices ok = some_report R L P fits straight (λ e c. ok.1.1.0 c)
  solved_how bounded values choices ok = some_report R L P fits bounded (λ e c. let z : ◌≡◌ {A = ℕ} 0 1 = cc in omega arith)

  told_how : (o : Option (Standing E)) → s.report ≡ o → (o ≡ None → ⊥) → Answered Call.report
  told_how None e none = absurd (none refl)
  told_how (Some st) e none = (_, _, Step.told e)

  accepted : (call : Call) → NoneFits (tests R s call) → Answered call
  accepted (add_variable d) ok = (_, _, Step.variable_added ok)
  accepted (add_function scope) ok = (_, _, Step.function_added ok)
  accepted (set_entry f index word) ok = (_, _, Step.entry_set ok)
  accepted (solve rule values choices) ok = let (figures, stores, solved) = solved_how rule values choices ok in (_, _, Step.solved ok solved)
  accepted Call.report ok = told_how s.report refl ok.0
  accepted (Call.score values) ok = (_, _, Step.scored ok)
  accepted (weight f p) ok =
      let there : functions P ≤ f → ⊥ = ok.0 in
      let place : arity P f ≤ p → ⊥ = ok.1.0 in
      let (w, weights) = some_weights R P fits.sound L in
      (_, _, Step.weighed ok (weights f p (omega arith) (omega arith)))

  pub some_step : (call : Call) → Answered call
  some_step call = ⊎_elim (λ first. (_, _, Step.declined first.1)) (λ ok. accepted call ok) (first_or_none (tests R s call) (decided call))
