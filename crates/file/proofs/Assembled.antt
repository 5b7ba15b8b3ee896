-- A file that is written section by section. Assumes nothing.
use Rattle.std.proofs.Common.{◌≡◌, ℕ, ◌+◌, ◌*◌, ◌<◌, ◌≤◌, List, [], ◌∷◌, length, get_or, take, drop, sym, ap, ◌∙◌, subst, inr, ⊎_elim, arith}
use Rattle.std.proofs.lemmas.List.{ext_get_or, get_or-drop, get_or_past, get_or-take, length-drop, length-take-le}
use Rattle.std.proofs.lemmas.Bool.{cases_lt}
use Rattle.theory.specs.Problem.{Problem, variables, functions, scope_of, words_in_order}
use Rattle.file.specs.Bytes.{half, word, part}
use Rattle.file.specs.Places.{scopes_place, entries_place}
use Rattle.file.specs.Spelling.{Spells, scope_bytes, file_size}
use Rattle.file.specs.Inner.{Written}
use Rattle.file.proofs.Parts.{part_part, word_part, half_part}
use Rattle.file.proofs.Writes.{written_more, half_kept, part_kept}

-- the numbers of the header of a problem's file
abbrev pub numbers_of : ℕ → Problem → List ℕ
numbers_of code P =
    code ∷ variables P ∷ functions P ∷ length (words_in_order P) ∷ 16 ∷ scopes_place (variables P) ∷ entries_place (variables P) (functions P) ∷ file_size P ∷ []

module _ (code : ℕ) (P : Problem) (a b c d e : List ℕ) (room : file_size P ≤ length a)
    (same-b : length b ≡ length a) (same-c : length c ≡ length a) (same-d : length d ≡ length a) (same-e : length e ≡ length a)
    (first : Written a b 0 16) (second : Written b c 16 (16 + variables P)) (third : Written c d (16 + variables P) (16 + variables P + 5 * functions P))
    (fourth : Written d e (16 + variables P + 5 * functions P) (file_size P))
    (numbers : (j : ℕ) → j < 8 → half b (2 * j) ≡ get_or (numbers_of code P) j 0)
    (domains : part c 16 (variables P) ≡ P.domains)
    (scopes : (f : ℕ) → f < functions P → part d (16 + variables P + 5 * f) 5 ≡ scope_bytes (scope_of P f))
    (words : (k : ℕ) → k < length (words_in_order P) → word e (16 + variables P + 5 * functions P + 4 * k) ≡ get_or (words_in_order P) k 0) where
  whole : Written a e 0 (file_size P)
  whole =
      written_more a d e 0 (16 + variables P + 5 * functions P) (file_size P) (omega arith) (omega arith)
      (written_more a c d 0 (16 + variables P) (16 + variables P + 5 * functions P) (omega arith) (omega arith)
      (written_more a b c 0 16 (16 + variables P) (omega arith) (omega arith) first second) third) fourth

  front_long : length (take (file_size P) e) ≡ file_size P
  front_long = length-take-le (file_size P) e (omega arith)

  front_bytes : (k : ℕ) → get_or (take (file_size P) e) k 0 < 256
  front_bytes k =
      ⊎_elim
      (λ (lt : k < file_size P). subst (λ (n : ℕ). n < 256) (sym (get_or-take (file_size P) e k 0 lt)) (whole.bytes k (omega arith) lt))
      (λ (le : file_size P ≤ k). subst (λ (n : ℕ). n < 256) (sym (get_or_past (take (file_size P) e) k 0 (let long = front_long in omega arith))) (omega arith))
      (cases_lt k (file_size P))

  -- the front of a buffer is its part from 0 on
  front_part : (k n : ℕ) → k + n ≤ file_size P → part (take (file_size P) e) k n ≡ part e k n
  front_part k n h = part_part e 0 (file_size P) k n h (omega arith) ∙ ap (λ (j : ℕ). part e j n) (omega arith)

  number : (j : ℕ) → j < 8 → half (take (file_size P) e) (2 * j) ≡ get_or (numbers_of code P) j 0
  number j h =
      half_part e 0 (file_size P) (2 * j) (omega arith) ∙ ap (half e) (omega arith)
      ∙ half_kept d e (16 + variables P + 5 * functions P) (file_size P) fourth (2 * j) (omega arith)
      ∙ half_kept c d (16 + variables P) (16 + variables P + 5 * functions P) third (2 * j) (omega arith)
      ∙ half_kept b c 16 (16 + variables P) second (2 * j) (omega arith)
      ∙ numbers j h

  pub assembled : Spells code (take (file_size P) e) P
  assembled = record {
    bytes = front_bytes;
    scale = number 0 (omega arith);
    variable_count = number 1 (omega arith);
    function_count = number 2 (omega arith);
    entry_count = number 3 (omega arith);
    domains_offset = number 4 (omega arith);
    scopes_offset = number 5 (omega arith);
    entries_offset = number 6 (omega arith);
    length_told = number 7 (omega arith);
    long = front_long;
    domains =
        front_part 16 (variables P) (omega arith)
        ∙ part_kept d e (16 + variables P + 5 * functions P) (file_size P) fourth 16 (variables P) (omega arith) (omega arith) (omega arith)
        ∙ part_kept c d (16 + variables P) (16 + variables P + 5 * functions P) third 16 (variables P) (omega arith) (omega arith) (omega arith)
        ∙ domains;
    scopes = λ f h.
        front_part (16 + variables P + 5 * f) 5 (omega arith)
        ∙ part_kept d e (16 + variables P + 5 * functions P) (file_size P) fourth (16 + variables P + 5 * f) 5 (omega arith) (omega arith) (omega arith)
        ∙ scopes f h;
    words = λ k h.
        word_part e 0 (file_size P) (16 + variables P + 5 * functions P + 4 * k) (omega arith) ∙ ap (word e) (omega arith) ∙ words k h;
  }

  pub later_kept : drop (file_size P) e ≡ drop (file_size P) a
  later_kept =
      let ours = length-drop (file_size P) e in
      let theirs = length-drop (file_size P) a in
      ext_get_or 0 (drop (file_size P) e) (drop (file_size P) a) (omega arith)
      (λ i h. get_or-drop (file_size P) e i 0 ∙ whole.outside (file_size P + i) (inr (omega arith)) ∙ sym (get_or-drop (file_size P) a i 0))
