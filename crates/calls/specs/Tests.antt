-- When a call is declined, and by which number. Assumes nothing.
use Rattle.std.specs.Prelude.{◌≡◌, ℕ, ◌≤◌, ◌≢◌, ◌⊎◌, List, [], ◌∷◌, length, None}
use Rattle.scale.specs.Rules.{Rules}
use Rattle.theory.specs.Problem.{variables, functions, function}
use Rattle.theory.specs.Graphs.{Cycle, every}
use Rattle.theory.specs.KeptBy.{straight, bounded}
use Rattle.theory.specs.Links.{graph}
use Rattle.theory.specs.Refusals.{variable_tests, function_tests, word_tests, list_tests, place_tests}
use Rattle.theory.specs.Sizes.{all_words}
use Rattle.calls.specs.State.{State, Call, add_variable, add_function, set_entry, solve, report, score, weight}

module _ {E : Type 0} (R : Rules E) (s : State E) where
  open s use {problem as P}

  -- The refusal numbers of each call, in the order of its tests, and when each one fits.
  abbrev pub tests : Call → List (ℕ × Type 0)
  tests (add_variable size) = variable_tests (variables P) size
  tests (add_function scope) = function_tests P.domains (functions P) (all_words P.tables) scope
  tests (set_entry f index word) =
      (9, functions P ≤ f) ∷
      (10, length (function P f).words ≤ index) ∷
      word_tests R word
  tests (solve straight values choices) =
      (1, (values ≢ 2304) ⊎ (choices ≢ 1024)) ∷
      (12, variables P ≡ 0) ∷
      (13, Cycle (graph P) every) ∷ []
  tests (solve bounded values choices) =
      (1, (values ≢ 2304) ⊎ (choices ≢ 1024)) ∷
      (12, variables P ≡ 0) ∷ []
  tests report =
      (14, s.report ≡ None) ∷ []
  tests (score values) = list_tests P values
  tests (weight f p) = place_tests P f p
