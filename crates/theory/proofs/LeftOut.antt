-- How many links the rule leaves out. Assumes nothing.
use Rattle.std.proofs.Common.{◌≡◌, ℕ, zero, suc, ◌+◌, ◌<◌, Bool, true, false, cond, ◌&&◌, ltb, Decides, sym, refl, ⊎_elim, arith}
use mathlib.Core.Bool.{and-true}
use Rattle.std.proofs.lemmas.Bool.{cases_lt, eqb-true, eq-eqb}
use Rattle.std.proofs.lemmas.Bool.Decides.{same_from_decides}
use Rattle.theory.specs.Joins.{count_below}
use Rattle.theory.specs.Graphs.{Graph, Whole, Joined, Parts, every, outside, link_count}
use Rattle.theory.proofs.Tally.{tally_below}
use Rattle.theory.proofs.Sets.{both}
use Rattle.theory.proofs.Walks.{joined_within}
use Rattle.theory.proofs.Counts.{below_same, count_same, count_split}
use Rattle.theory.proofs.Labels.{Labels, is_root, same_label}
use Rattle.theory.proofs.Orders.{Order}
use Rattle.theory.proofs.Parts.{part, number_order}
use Rattle.theory.proofs.Kept.{Kept_by, kept_forest, kept_spans}

-- both ways of counting agree
tally_is : (S : ℕ → Bool) (k : ℕ) → tally_below S k ≡ count_below S k
unfolding count_below
tally_is S zero = refl
tally_is S (suc k) = step (S k) _ _ (tally_is S k)
  where
    step : (s : Bool) (a b : ℕ) → a ≡ b → cond s (a + 1) a ≡ b + cond s 1 0
    step true a b e = omega arith
    step false a b e = omega arith

-- Where S joins what all links join, the nodes that are their own label are those that are joined to no lower node.
root_lowest : {G : Graph} {S : ℕ → Bool} {label : ℕ → ℕ} → Labels G S label → ((a b : ℕ) → Joined G every a b → Joined G S a b) →
    (a : ℕ) → Decides (is_root label a) ((b : ℕ) → b < a → Joined G every a b → ⊥)
root_lowest {G} {label} l over a = (
  λ e b h j. let same = same_label l (over a b j) in omega (arith, same, l.low b, eqb-true (label a) a e),
  λ none. eq-eqb (label a) a (settle none),
)
  where
    settle : ((b : ℕ) → b < a → Joined G every a b → ⊥) → label a ≡ a
    settle none = ⊎_elim
        (λ h. absurd (none (label a) h (joined_within (λ _ _. refl) (l.joins a))))
        (λ h. omega (arith, l.low a))
        (cases_lt (label a) a)

pub parts_known : (G : Graph) → Whole G → (parts : ℕ) × Parts G parts
parts_known G whole =
    let p = part G ltb whole number_order every in
    (_, record { lowest = is_root p.label; told = λ a _. root_lowest p.labels (λ _ _ j. j) a; counted = refl })

pub left_out_count : {G : Graph} {first : ℕ → ℕ → Bool} → Whole G → Order first → (K : ℕ → Bool) → Kept_by G first K →
    (parts : ℕ) → Parts G parts → link_count G (outside K) + G.nodes ≡ link_count G every + parts
left_out_count {G} whole order K keeps parts p =
    let f = kept_forest whole order K keeps every in
    let spanned : (a b : ℕ) → Joined G every a b → Joined G (both K every) a b = λ a b j. kept_spans whole order K keeps every (λ _ _ _ _ _. refl) j in
    let named = below_same (is_root f.label) p.lowest G.nodes (λ a h. same_from_decides _ _ (root_lowest f.labels spanned a) (p.told a h)) in
    let out = count_same G (outside K) (both (outside K) every) (λ n _ _. sym (and-true (outside K n))) in
    omega (arith, f.counted, named, p.counted, out, count_split G K every, tally_is p.lowest G.nodes, tally_is (λ n. G.present n && outside K n) G.links, tally_is (λ n. G.present n && every n) G.links)
