-- Bytes and words of a part of a file. Assumes nothing.
use Rattle.std.proofs.Common.{◌≡◌, ℕ, zero, suc, ◌+◌, ◌*◌, ◌/◌, ◌<◌, ◌≤◌, List, [], length, get_or, take, drop, sym, ap, ◌∙◌, mul-suc, mul-zero, arith}
use Rattle.std.proofs.lemmas.List.{drop-drop, ext_get_or, get_or-drop, get_or-take, length-drop, length-take}
use Rattle.std.specs.Simd.{first_chunks}
use Rattle.file.specs.Bytes.{half, word, part}

pub part_at : (bs : List ℕ) (a n i j : ℕ) → i < n → a + i ≡ j → get_or (part bs a n) i 0 ≡ get_or bs j 0
part_at bs a n i j h e = get_or-take n (drop a bs) i 0 h ∙ get_or-drop a bs i 0 ∙ ap (λ (k : ℕ). get_or bs k 0) e

pub part_length : (bs : List ℕ) (a n : ℕ) → a + n ≤ length bs → length (part bs a n) ≡ n
part_length bs a n h = let cut = length-take n (drop a bs) in let rest = length-drop a bs in omega arith

-- a part of a part
pub part_part : (bs : List ℕ) (a n b m : ℕ) → b + m ≤ n → a + n ≤ length bs → part (part bs a n) b m ≡ part bs (a + b) m
part_part bs a n b m h k =
    let inner = part_length bs a n k in
    let ours = part_length (part bs a n) b m (omega arith) in
    let theirs = part_length bs (a + b) m (omega arith) in
    ext_get_or 0 (part (part bs a n) b m) (part bs (a + b) m) (omega arith)
    (λ i lt. part_at (part bs a n) b m i (b + i) (omega arith) (omega arith) ∙ part_at bs a n (b + i) (a + b + i) (omega arith) (omega arith) ∙ sym (part_at bs (a + b) m i (a + b + i) (omega arith) (omega arith)))

pub half_part : (bs : List ℕ) (a n k : ℕ) → k + 2 ≤ n → half (part bs a n) k ≡ half bs (a + k)
half_part bs a n k h =
    let b0 = part_at bs a n k (a + k) (omega arith) (omega arith) in
    let b1 = part_at bs a n (k + 1) (a + k + 1) (omega arith) (omega arith) in
    omega arith

pub word_part : (bs : List ℕ) (a n k : ℕ) → k + 4 ≤ n → word (part bs a n) k ≡ word bs (a + k)
word_part bs a n k h =
    let b0 = part_at bs a n k (a + k) (omega arith) (omega arith) in
    let b1 = part_at bs a n (k + 1) (a + k + 1) (omega arith) (omega arith) in
    let b2 = part_at bs a n (k + 2) (a + k + 2) (omega arith) (omega arith) in
    let b3 = part_at bs a n (k + 3) (a + k + 3) (omega arith) (omega arith) in
    omega arith

-- a chunk of n bytes is a part
pub chunk_at : (n k i : ℕ) (bs : List ℕ) → i < k → get_or (first_chunks n k bs) i [] ≡ part bs (n * i) n
chunk_at n zero i bs h = absurd (omega arith)
chunk_at n (suc k) zero bs h = ap (λ (j : ℕ). take n (drop j bs)) (sym (mul-zero n))
chunk_at n (suc k) (suc i) bs h =
    let behind : n + n * i ≡ n * suc i = omega (arith, mul-suc n i) in
    chunk_at n k i (drop n bs) (omega arith) ∙ ap (take n) (drop-drop (n * i) n bs ∙ ap (λ (j : ℕ). drop j bs) behind)

-- the words of a section
pub chunk_word : (bs : List ℕ) (k : ℕ) → k < length bs / 4 → word (get_or (first_chunks 4 (length bs / 4) bs) k []) 0 ≡ word bs (4 * k)
chunk_word bs k h =
    ap (λ (c : List ℕ). word c 0) (chunk_at 4 (length bs / 4) k bs h) ∙ word_part bs (4 * k) 4 0 (omega arith) ∙ ap (word bs) (omega arith)
