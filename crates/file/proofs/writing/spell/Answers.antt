use Rattle.std.proofs.Common.{◌≡◌, ℕ, ◌+◌, ◌*◌, ◌<◌, List, [], ◌∷◌, length, get_or, sym, refl, ap, ◌∙◌, subst, arith}
use Rattle.theory.specs.Problem.{variables, functions, scope_of, words_in_order}
use Rattle.layout.specs.View.{domains_of, scopes_of, scope_in}
use Rattle.tables.specs.declared.tables.Tables.{Tables}
use Rattle.tables.specs.View.{problem_of}
use Rattle.tables.proofs.Ordered.{functions_length, scope_from, within_sizes}
use Rattle.file.specs.Bytes.{part, word}
use Rattle.file.specs.Spelling.{scope_bytes, file_size}
use Rattle.file.specs.Inner.{Written}
use Rattle.file.proofs.Accepted.{spelled_accepted}
use Rattle.file.proofs.Assembled.{numbers_of, assembled, later_kept}
use Rattle.file.proofs.Unique.{one_problem}
use Rattle.file.proofs.writing.spell.Goals as goal

counted : (t : Tables) → length (scopes_of t.layout) ≡ functions (problem_of t)
counted t = sym (functions_length (domains_of t.layout) (scopes_of t.layout) t.words)

scope_same : (t : Tables) (f : ℕ) → scope_in t.layout f ≡ scope_of (problem_of t) f
unfolding scope_of
scope_same t f = sym (scope_from (domains_of t.layout) (scopes_of t.layout) t.words f)

-- what is written between two places that are told otherwise
between : (a b : List ℕ) (from to from' to' : ℕ) → from ≡ from' → to ≡ to' → Written a b from to → Written a b from' to'
between a b from to from' to' p q w = subst (λ (n : ℕ). Written a b n to') p (subst (λ (n : ℕ). Written a b from n) q w)

pub put_scopes-requires : goal.put_scopes-requires
put_scopes-requires g c = let count = counted c.args.tables.now in record { low = omega arith; room = omega (arith, c.requires.room) }

pub returns : goal.returns
returns g c =
    let R = g.V.Scale.rules in
    let t = c.args.tables.now in
    let P = problem_of t in
    let h = c.args.header in
    let counts = c.requires.counts in
    let count = counted t in
    let vs = counts.variable_count in
    let fs = counts.function_count in
    let es = counts.entry_count in
    let ds = ap length c.domains.ensures in
    let ws = c.all_words.ensures.words in
    let all = ap length ws in
    let size = c.file_length.ensures in
    let numbers : List ℕ = c.code.result ∷ h.variables ∷ h.functions ∷ h.entries ∷ 16 ∷ c.scopes_place-scopes.result ∷ c.entries_place-entries.result ∷ c.file_length.result ∷ [] in
    let code = c.code.ensures in
    let same : numbers ≡ numbers_of R.code P = cc in
    let told = λ (j : ℕ) (low : j < 8). c.put_numbers.ensures.content j low ∙ ap (λ (ns : List ℕ). get_or ns j 0) same in
    let a = c.args.out.now in
    let b = c.put_numbers.new.out in
    let d = c.put_bytes.new.out in
    let e = c.put_scopes.new.out in
    let f = c.put_words.new.out in
    let second = between b d _ _ 16 (16 + variables P) refl (omega arith) c.put_bytes.ensures.written in
    let third = between d e _ _ (16 + variables P) (16 + variables P + 5 * functions P) (omega arith) (omega arith) c.put_scopes.ensures.written in
    let fourth = between e f _ _ (16 + variables P + 5 * functions P) (file_size P) (omega arith) (omega arith) c.put_words.ensures.written in
    let scopes_at : c.scopes_place-scopes.result ≡ 16 + variables P = omega arith in
    let entries_at : c.entries_place-entries.result ≡ 16 + variables P + 5 * functions P = omega arith in
    let domains = ap (λ (n : ℕ). part d 16 n) (sym ds) ∙ c.put_bytes.ensures.content ∙ c.domains.ensures in
    let scopes = λ (g : ℕ) (lt : g < functions P).
    ap (λ (n : ℕ). part e (n + 5 * g) 5) (sym scopes_at) ∙ c.put_scopes.ensures.content g (omega arith) ∙ ap scope_bytes (scope_same t g) in
    let words = λ (k : ℕ) (lt : k < length (words_in_order P)).
    ap (λ (n : ℕ). word f (n + 4 * k)) (sym entries_at) ∙ c.put_words.ensures.content k (omega arith) ∙ ap (λ (xs : List ℕ). get_or xs k 0) ws in
    let spelled = assembled R.code P a b d e f c.requires.room (omega arith) (omega arith) (omega arith) (omega arith) c.put_numbers.ensures.written second third fourth told domains scopes words in
    record {
      spelled = spelled;
      later = later_kept R.code P a b d e f c.requires.room (omega arith) (omega arith) (omega arith) (omega arith) c.put_numbers.ensures.written second third fourth told domains scopes words;
      accepted = λ entries. spelled_accepted R P _ (within_sizes t) entries spelled;
      back = λ Q other. one_problem R.code _ P Q spelled other;
    }
