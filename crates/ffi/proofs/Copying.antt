-- What is written of a file that was read is that file. Assumes nothing.
use Rattle.std.proofs.Common.{◌≡◌, ℕ, ◌<◌, List, ◌++◌, length, drop, Ok, Err, Result, sym, ap, ap₂, ◌∙◌, subst, inl, inr, arith}
use Rattle.std.proofs.lemmas.List.{take-append-drop}
use Rattle.scale.specs.Rules.{Rules}
use Rattle.theory.specs.Problem.{Problem}
use Rattle.theory.specs.Refusals.{First, NoneFits, Answered}
use Rattle.theory.proofs.Refusing.{first_after, none_both}
use Rattle.file.specs.declared.fault.FileFault.{FileFault}
use Rattle.file.specs.Numbers.{refusal}
use Rattle.file.specs.Reading.{ReadAs}
use Rattle.file.specs.Spelling.{file_size}
use Rattle.file.specs.Tests.{file_tests}
use Rattle.file.specs.Writing.{WrittenAs, write_tests}
use Rattle.ffi.specs.Copies.{copy_tests, Copied}

-- a buffer of the same length meets the same test
module _ (P : Problem) (a b : List ℕ) (same : length b ≡ length a) where
  pub first_same : (x : ℕ × ℕ) → First (write_tests P b) x → First (write_tests P a) x
  first_same x (inl here) = inl (subst (λ (n : ℕ). n < file_size P) same here.0, here.1)
  first_same x (inr later) = absurd later.1

  pub none_same : NoneFits (write_tests P b) → NoneFits (write_tests P a)
  none_same none = ((λ short. none.0 (subst (λ (n : ℕ). n < file_size P) (sym same) short)), tt)

  -- a buffer that was written before is not too short
  pub never_both : (x : ℕ × ℕ) → NoneFits (write_tests P a) → First (write_tests P b) x → ⊥
  never_both x none (inl here) = none.0 (subst (λ (n : ℕ). n < file_size P) same here.0)
  never_both x none (inr later) = later.1

pub written_over : {E : Type 0} {R : Rules E} {P : Problem} {a b c : List ℕ} → drop (file_size P) b ≡ drop (file_size P) a → WrittenAs R P b c → WrittenAs R P a c
written_over same w = record { spelled = w.spelled; later = w.later ∙ same; accepted = w.accepted; back = w.back }

module _ {E : Type 0} {R : Rules E} {bs : List ℕ} {P : Problem} (read : ReadAs R bs P) where
  short_file : file_size P < 65536
  short_file =
      let low = read.spelled.bytes 14 in
      let high = read.spelled.bytes 15 in
      let told = read.spelled.length_told in
      omega (arith, low, high, told)

  copied : {before after : List ℕ} → WrittenAs R P before after → Copied bs before after
  copied {before} {after} w =
      sym (take-append-drop (file_size P) after) ∙ ap₂ (λ (xs ys : List ℕ). xs ++ ys) (read.again _ w.spelled) (w.later ∙ ap (λ (n : ℕ). drop n before) (sym read.spelled.long))

pub copy_answered : {E : Type 0} (R : Rules E) (bs before after : List ℕ) (P : Problem) (r : Result ℕ FileFault) → NoneFits (file_tests R bs) → ReadAs R bs P →
    Answered refusal (write_tests P before) (λ n. (n ≡ file_size P) × WrittenAs R P before after) r →
    Answered refusal (copy_tests R bs before) (λ n. (n ≡ length bs) × (n < 65536) × Copied bs before after) r
copy_answered R bs before after P (Ok n) none read (room, (size, w)) = (
  none_both (file_tests R bs) _ none ((λ short. room.0 (subst (λ (n : ℕ). length before < n) read.spelled.long short)), tt),
  (size ∙ sym read.spelled.long, subst (λ (k : ℕ). k < 65536) (sym size) (short_file read), copied read w),
)
copy_answered R bs before after P (Err f) none read (inl here) =
    first_after (file_tests R bs) _ (refusal f) none (inl (subst (λ (n : ℕ). length before < n) (sym read.spelled.long) here.0, here.1))
copy_answered R bs before after P (Err f) none read (inr later) = absurd later.1
