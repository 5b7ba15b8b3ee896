-- Calls worked through. Assumes nothing.
use Rattle.std.proofs.Common.{◌≡◌, ℕ, ◌<◌, ◌≤◌, List, None, [], ◌∷◌, get_or, refl, ◌⊎◌, sym, inl, inr, ⊎_elim, ℤ, arith}
use Rattle.std.proofs.lemmas.Bool.{false≢true}
use Rattle.scale.specs.Points.{points}
use Rattle.theory.specs.Problem.{size, scope_of}
use Rattle.theory.specs.Sizes.{all_words}
use Rattle.calls.specs.State.{State, Call, Answer}
use Rattle.calls.specs.Step.{Step}
use Rattle.worked.proofs.TwoByTwo.{two}
use Rattle.worked.specs.Calls.{FirstAnswers, CallsBuild, CallsWithdraw}

pub first_answers : FirstAnswers
unfolding size scope_of
first_answers = record {
  function = inl (omega arith, refl);
  index = inr (λ h. omega arith, inl (omega arith, refl));
  word = inr (λ h. omega arith, inr (λ h. omega arith, inl (refl, refl)));
  link = inl (omega arith, refl);
  place = inr (λ h. omega arith, inl (omega arith, refl));
  length = inl (λ e. omega arith, refl);
  value = inr (λ h. h refl, inl ((0, omega arith, omega arith), refl));
  store = inl (inl (λ e. omega arith), refl);
  variables = inr (⊎_elim (λ ne. ne refl) (λ ne. ne refl), inl (refl, refl));
  report = inl (refl, refl);
}

abbrev both : List ℕ
both = 0 ∷ 1 ∷ []

known : (p : ℕ) → p < 2 → 2 ≤ get_or both p 0 → ⊥
known p h = two (λ p. 2 ≤ get_or both p 0 → ⊥) (λ k. omega arith) (λ k. omega arith) p h

different : (p q : ℕ) → p < q → q < 2 → get_or both p 0 ≡ get_or both q 0 → ⊥
different p q less low =
    two (λ q. (p : ℕ) → p < 2 → p < q → get_or both p 0 ≡ get_or both q 0 → ⊥) (λ p h less same. omega arith)
    (two (λ p. p < 1 → get_or both p 0 ≡ 1 → ⊥) (λ less same. omega arith) (λ less same. omega arith))
    q low p (omega arith) less

pub calls_build : CallsBuild
unfolding size scope_of all_words
calls_build =
    let no_size : (n : ℕ) → 1 ≤ n → n ≤ 16 → (n < 1) ⊎ (16 < n) → ⊥ = λ n low high. ⊎_elim (λ h. omega arith) (λ h. omega arith) in (
      _,
      Step.variable_added (no_size 2 (omega arith) (omega arith), (λ h. omega arith, tt)),
      (
        _,
        Step.variable_added (no_size 3 (omega arith) (omega arith), (λ h. omega arith, tt)),
        (
          _,
          Step.function_added (
            ⊎_elim (λ h. omega arith) (λ h. omega arith),
            (λ (p, h, bad). known p h bad, (λ (p, q, less, low, same). different p q less low same, (λ h. omega arith, (⊎_elim (λ h. omega arith) (λ h. omega arith), tt)))),
          ),
          (
            _,
            Step.entry_set (λ h. omega arith, (λ h. omega arith, (λ e. false≢true (sym e), tt))),
            (_, Step.declined (inl (omega arith, refl)), refl),
          ),
        ),
      ),
    )

variable_withdraws : (s t : State ℤ) (n number : ℕ) → Step points s (Call.add_variable n) (Answer.number number) t → t.report ≡ None
variable_withdraws s t n number (Step.variable_added ok) = refl

function_withdraws : (s t : State ℤ) (scope : List ℕ) (number : ℕ) → Step points s (Call.add_function scope) (Answer.number number) t → t.report ≡ None
function_withdraws s t scope number (Step.function_added ok) = refl

entry_withdraws : (s t : State ℤ) (f index word : ℕ) → Step points s (Call.set_entry f index word) Answer.done t → t.report ≡ None
entry_withdraws s t f index word (Step.entry_set ok) = refl

pub calls_withdraw : CallsWithdraw
calls_withdraw s t = record { variable = variable_withdraws s t; function = function_withdraws s t; entry = entry_withdraws s t }
