use Rattle.std.proofs.Common.{ℕ, ◌+◌, ◌*◌, ◌/◌, List, [], length, get_or, ap, ◌∙◌, subst, arith}
use Rattle.std.proofs.lemmas.Result.{err_from_is_err_and}
use Rattle.theory.specs.Refusals.{First, NoneFits, word_tests}
use Rattle.file.specs.Bytes.{word}
use Rattle.file.specs.Numbers.{refusal}
use Rattle.file.specs.Tests.{at_place, entry_tests}
use Rattle.file.proofs.Parts.{chunk_word}
use Rattle.file.proofs.Testing.{none_each, none_more, first_each}
use Rattle.file.proofs.entries.test_words.Goals as goal

pub loop-k-init : goal.loop-k-init
loop-k-init g c = none_each (entry_tests g.V.Scale.rules c.args.place c.args.section.now)

pub returns-in_err-test_word : goal.returns-in_err-test_word
returns-in_err-test_word g c =
    let R = g.V.Scale.rules in
    let section = c.args.section.now in
    let k = c.loop-k.k in
    let told = c.from_le_bytes.ensures ∙ ap (λ (cs : List (List ℕ)). word (get_or cs k []) 0) c.as_chunks.ensures.front ∙ chunk_word section k (omega arith) in
    let f = c.in_err-test_word.field-0.0 in
    let e = err_from_is_err_and c.from_residual.result c.from_residual.ensures.1 in
    let here = subst (λ (w : ℕ). First (at_place (c.args.place + 4 * k) (word_tests R w)) (refusal f)) told c.in_err-test_word.ensures in
    rw (e.1, e.2) (first_each (entry_tests R c.args.place section) (length section / 4) k (refusal f) (omega arith) c.loop-k.invariant here)

pub loop-k-preserved : goal.loop-k-preserved
loop-k-preserved g c =
    let R = g.V.Scale.rules in
    let section = c.args.section.now in
    let k = c.loop-k.k in
    let told = c.from_le_bytes.ensures ∙ ap (λ (cs : List (List ℕ)). word (get_or cs k []) 0) c.as_chunks.ensures.front ∙ chunk_word section k (omega arith) in
    let here = subst (λ (w : ℕ). NoneFits (at_place (c.args.place + 4 * k) (word_tests R w))) told c.in_ok-test_word.ensures.0 in
    none_more (entry_tests R c.args.place section) k c.loop-k.invariant here
