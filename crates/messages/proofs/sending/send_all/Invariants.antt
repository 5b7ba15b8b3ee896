use Rattle.std.proofs.Common.{ℕ, ◌+◌, ◌<◌, ◌≤◌, length}
use Rattle.board.specs.SameLent.{SameLent}
use Rattle.theory.specs.Cut.{IsCut}
use Rattle.theory.specs.Messages.{Messages}
use Rattle.theory.specs.Problem.{Plan}
use Rattle.hanging.specs.Hung.{count_of, node_at}
use Rattle.joining.specs.Counts.{counts}
use Rattle.messages.specs.Counts.{one_entry}
use Rattle.messages.specs.Rooted.{problem_in, kept_in, hanging_in}
use Rattle.messages.specs.Sending.{node_cells, node_choices}
use Rattle.messages.specs.Upward.{OnlyAt}
use Rattle.messages.proofs.Passing.{NodeSent}
use Rattle.messages.proofs.sending.send_all.Given as goal

abbrev pub invariant-loop-node : goal.invariant-loop-node
invariant-loop-node g l =
    let v = g.V.Scale in
    let P = problem_in l.forest in
    let H = hanging_in l.forest in
    let kept = kept_in l.forest in
    ((cut : ℕ → Plan → v.Exact) → IsCut v.rules P kept cut → (m : Messages v.rules P H cut) (n : Messages counts P H one_entry) →
    (i : ℕ) → count_of l.forest.hung.now ≤ i + length l.yielded → i < count_of l.forest.hung.now → NodeSent v.rules v.means v.within P kept H cut m n l.values.cells.now l.choices.cells.now (node_at l.forest.hung.now i))
    × OnlyAt (λ k. (i : ℕ) × (count_of l.forest.hung.now ≤ i + length l.yielded) × (i < count_of l.forest.hung.now) × node_cells P H (node_at l.forest.hung.now i) k) l.initial.values.cells.now l.values.cells.now
    × OnlyAt (λ k. (i : ℕ) × (count_of l.forest.hung.now ≤ i + length l.yielded) × (i < count_of l.forest.hung.now) × node_choices P H (node_at l.forest.hung.now i) k) l.initial.choices.cells.now l.choices.cells.now
    × SameLent l.initial.values l.values
    × SameLent l.initial.choices l.choices
