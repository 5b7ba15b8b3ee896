-- The promise in weakest. Assumes nothing.
use Rattle.std.proofs.Common.{◌≡◌, ℕ, zero, suc, ◌≤◌, true, List, [], ◌∷◌, Some, None, sym, refl, ap, ◌∙◌, subst, leb-true, arith}
use Rattle.std.proofs.lemmas.Bool.{false≢true}
use Rattle.scale.specs.Levels.{Level, level, weakest}
use Rattle.scale.specs.LevelLaws.{at_most, weakest_laws}
use Rattle.theory.specs.Joins.{joins}
use Rattle.theory.specs.Problem.{Problem, Plan, Valid, Sound, functions, entry, score, score_by}
use Rattle.theory.specs.KeptBy.{Rule, straight, bounded, KeptBy}
use Rattle.theory.specs.Links.{link}
use Rattle.theory.proofs.LinkNumbers.{link_there}
use Rattle.theory.proofs.Straight.{cut_whole}
use Rattle.rules.specs.Figures.{Figures, planned}
use Rattle.rules.specs.Guarantees.{Guaranteed}
use Rattle.calls.specs.State.{Standing, State, Call, Answer}
use Rattle.calls.specs.Step.{Step, Runs, reported}
use Rattle.calls.specs.Promise.{plain, AllPlain}
use Rattle.calls.proofs.Promised.{plain_promised, stays_within}
use Rattle.shipped.specs.Plain.{lowest_below, word_at}
use Rattle.shipped.specs.Weakest.{AreWeakest, weakest_of, weakest_score, WeakestPromise}
use Rattle.shipped.proofs.Levels.{are_levels, order_is, entry_is, shows}
use Rattle.shipped.proofs.Reported as on_any

-- joined is the lowest, where each value has this number
lowest_is : (n : ℕ) (t : ℕ → Level) (g : ℕ → ℕ) → ((i : ℕ) → (t i).size ≡ g i) → (joins weakest n t).size ≡ lowest_below n g
unfolding joins lowest_below
lowest_is zero t g each = refl
lowest_is (suc n) t g each = omega (arith, lowest_is n t g each, each n, at_most (joins weakest n t))

reads_is : (word : ℕ) → (weakest.reads word).size ≡ weakest_of word
reads_is word = grind arith

score_is : (P : Problem) (y : Plan) → (score weakest P y).size ≡ weakest_score P y
unfolding entry
score_is P y = lowest_is (functions P) _ _ (λ f. reads_is (word_at P f y))

-- where every link is kept, a plan's cut score is its score
whole_is : (P : Problem) → Sound P → {rule : Rule} {figures : Figures Level} → rule ≡ straight → (g : Guaranteed weakest P rule figures) → (y : Plan) → Valid P y →
    (score_by weakest P g.cut y).size ≡ weakest_score P y
whole_is P sound only g y valid =
    let keeps = subst (λ (r : Rule). KeptBy weakest P g.by_rule.0 g.kept r) only g.by_rule.1 in
    ap (λ (a : Level). a.size) (cut_whole weakest P g.kept (λ f p k place. keeps.all_kept (link f p) ∙ link_there P sound f p k place) g.cut g.is_cut y valid)
    ∙ score_is P y

-- calls that every scale has leave only reports of straight solves
Straightly : State Level → Type 0
Straightly s = (st : Standing Level) → s.report ≡ Some st → st.rule ≡ straight

unsaid : (s : State Level) → s.report ≡ None → Straightly s
unfolding Straightly
unsaid s e st is = let z : ◌≡◌ {A = ℕ} 0 1 = cc in absurd (omega arith)

solved_by : (s : State Level) (rule : Rule) (values choices : ℕ) (figures : Figures Level) → plain (Call.solve rule values choices) ≡ true → Straightly (reported s.problem rule figures)
unfolding Straightly
solved_by s straight values choices figures ok st is =
    let same : ◌≡◌ {A = Standing Level} (record { rule = straight; figures = figures }) st = cc in
    ap (λ (x : Standing Level). x.rule) (sym same)
solved_by s bounded values choices figures ok st is = absurd (false≢true ok)

more : (s : State Level) {c : Call} {a : Answer Level} {t : State Level} → Step weakest s c a t → plain c ≡ true → Straightly s → Straightly t
more s (Step.declined first) ok held = held
more s (Step.variable_added on) ok held = unsaid _ refl
more s (Step.function_added on) ok held = unsaid _ refl
more s (Step.entry_set on) ok held = unsaid _ refl
more s (Step.solved {rule} {values} {choices} {figures} on solved) ok held = solved_by s rule values choices figures ok
more s (Step.told is) ok held = held
more s (Step.scored on) ok held = held
more s (Step.weighed on is) ok held = held

all : (cs : List (Call × Answer Level)) (s t : State Level) → Runs weakest s cs t → AllPlain cs → Straightly s → Straightly t
all [] s t e ok held = subst Straightly e held
all (c ∷ cs) s t run ok held = all cs run.0 t run.2 ok.1 (more s run.1 ok.0 held)

pub weakest_promised : WeakestPromise weakest
unfolding Straightly
weakest_promised start calls state begins ok runs standing is =
    let g = plain_promised weakest weakest_laws start calls state begins ok runs standing is in
    let s = on_any.reported weakest weakest_laws start calls state begins runs is g in
    let P = state.problem in
    let only = all calls start state runs ok (unsaid start begins.unreported) standing is in
    let whole = whole_is P (stays_within weakest start calls state begins runs).sound only g in record {
      valid = g.valid;
      scored = ap (λ (a : Level). a.size) g.scored ∙ score_is P _;
      at_most_tree = λ y valid. subst (λ (n : ℕ). n ≤ standing.figures.tree.size) (whole y valid) (leb-true _ _ (g.at_most_tree y valid));
      reaches_tree = sym (whole (planned standing.figures.plan) g.valid) ∙ ap (λ (a : Level). a.size) g.reaches_tree;
      at_most_ceiling = λ y valid. subst (λ (n : ℕ). n ≤ standing.figures.ceiling.size) (score_is P y) (leb-true _ _ (g.at_most_ceiling y valid));
      reached = ap (λ (a : Level). a.size) (s.reached only);
    }

pub weakest_are : AreWeakest weakest (λ c. level c.value)
weakest_are = record {
  values = are_levels;
  means_is = λ c. shows c.value;
  order = order_is;
  join = λ a b. omega (arith, at_most a);
  neutral = refl;
  entry = entry_is;
  reads = reads_is;
  neutral_word = refl;
  shown = λ a. refl;
  code = refl;
}
