-- The state of a problem that is open, in exact values of its scale. Assumes nothing.
use Rattle.std.specs.Prelude.{ℤ}
use Rattle.scale.specs.Levels.{Level, level}
use Rattle.scale.specs.Ranks.{rank}
use Rattle.scale.specs.declared.capped.Capped.{Capped}
use Rattle.scale.specs.declared.points.Points.{Points}
use Rattle.scale.specs.declared.ranked.Ranked.{Ranked}
use Rattle.scale.specs.declared.weakest.Weakest.{Weakest}
use Rattle.calls.specs.State.{State}
use Rattle.engine.specs.declared.problem.Problem.{Problem}
use Rattle.engine.specs.View.{state_of}

abbrev pub points_state : Problem Points → State ℤ
points_state p = state_of (λ (v : Points). v.value) p

abbrev pub capped_state : Problem Capped → State Level
capped_state p = state_of (λ (v : Capped). level v.value) p

abbrev pub ranked_state : Problem Ranked → State (ℤ × ℤ)
ranked_state p = state_of (λ (v : Ranked). rank v.first v.second) p

abbrev pub weakest_state : Problem Weakest → State Level
weakest_state p = state_of (λ (v : Weakest). level v.value) p
