-- The roots' highest messages, joined. Assumes nothing.
use Rattle.std.proofs.Common.{◌≡◌, ℕ, ◌<◌, Bool, List, Some, None, Option, sym, refl, subst, arith}
use Rattle.std.proofs.lemmas.Bool.{leb-true}
use Rattle.scale.specs.Rules.{Rules}
use Rattle.scale.specs.Laws.{Plain, EntryLaws}
use Rattle.theory.specs.Joins.{when}
use Rattle.theory.specs.Problem.{Problem, Plan, size, variables}
use Rattle.theory.specs.Sizes.{Fits}
use Rattle.theory.specs.Forest.{Hanging, is_root}
use Rattle.theory.specs.Messages.{Messages}
use Rattle.joining.specs.Counts.{counts}
use Rattle.messages.specs.Counts.{one_entry}
use Rattle.messages.specs.Sent.{VariableSent}
use Rattle.messages.proofs.Counting.{all_counted}
use Rattle.joining.proofs.Joining.{stands_for, when_true, when_false}
use Rattle.joining.specs.Given.{Gives, JoinOfGiven}
use Rattle.figures.specs.TreeValue.{RootHighest, TreeValueOf}
use Rattle.figures.proofs.Highest.{highest_stands}

module _ {V E : Type 0} (R : Rules E) (means : V → E) (P : Problem) (H : Hanging) (cells : List V) (L : Plain R) (within : ℕ → V → Type 0) (ties : EntryLaws R within) (fits : Fits P) where
  -- what is given of a variable is its part of the tree value
  member : (kept : ℕ → Bool) (cut : ℕ → Plan → E) (m : Messages R P H cut) (n : Messages counts P H one_entry) (v : ℕ) (o : Option V) → v < variables P →
      VariableSent R means within P kept H cut m n cells v → RootHighest R means P H cells v o → Gives R means within (when R (is_root H v) (m.best v)) (when counts (is_root H v) (n.best v)) o
  member kept cut m n v None known sent inner = (when_false R (m.best v) inner, when_false counts (n.best v) inner)
  member kept cut m n v (Some r) known sent (root, highest) =
      stands_for R means within (sym (when_true R (m.best v) root)) (sym (when_true counts (n.best v) root))
      (highest_stands R L means cells v ties (size P v) r highest (m.q v) (n.q v) (m.best v) (n.best v) sent (m.root v known root)
      (λ x h. leb-true (n.q v x) (n.best v) ((n.root v known root).bound x h)))

  -- Joined, they are the tree value.
  pub roots_joined : (gives : ℕ → Option V → Type 0) (r : V) (count : ℕ) → count ≡ variables P → JoinOfGiven R means within count gives r →
      ((v : ℕ) (o : Option V) → v < count → gives v o → RootHighest R means P H cells v o) → TreeValueOf R means within P H cells r
  roots_joined gives r count all joined each = λ kept hung cut m n sent.
      let whole = subst (λ (i : ℕ). JoinOfGiven R means within i gives r) all joined in
      let total = all_counted P fits.sound kept H hung n in
      stands_for R means within refl total
      (whole (λ v. when R (is_root H v) (m.best v)) (λ v. when counts (is_root H v) (n.best v))
      (λ v o known given. member kept cut m n v o known (sent v known) (each v o (omega arith) given))
      (omega (arith, total, fits.few_functions)))
