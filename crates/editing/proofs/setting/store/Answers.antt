use Rattle.std.proofs.Common.{ℕ, ◌+◌, ◌<◌, length, set, ap, arith}
use Rattle.layout.specs.View.{start_in}
use Rattle.tables.specs.declared.tables.Tables.{Tables}
use Rattle.tables.specs.View.{problem_of, table_of}
use Rattle.theory.specs.Problem.{functions}
use Rattle.tables.proofs.Ordered.{there, table_end, table_is, table_within}
use Rattle.editing.proofs.Edited.{entry_set}
use Rattle.editing.proofs.setting.store.Goals as goal

-- a word of a table is one of all words
inside : (t : Tables) (f i : ℕ) → f < functions (problem_of t) → i < length (table_of t f) → start_in t.layout f + i < 4096
inside t f i h k =
    let here = there t f h in
    let long = table_is t f here in
    let end = table_end t f here in
    let few = table_within t f here in
    omega arith

pub overflow_add-tables : goal.overflow_add-tables
overflow_add-tables c =
    let low = inside c.args.tables.now c.args.function c.args.index c.requires.function c.requires.index in
    record { fits = omega (arith, c.start-start.ensures) }

pub offset_bounds-tables-start : goal.offset_bounds-tables-start
offset_bounds-tables-start c =
    let low = inside c.args.tables.now c.args.function c.args.index c.requires.function c.requires.index in
    record { fits = omega (arith, c.start-start.ensures) }

pub bounds-tables-start : goal.bounds-tables-start
bounds-tables-start c =
    let low = inside c.args.tables.now c.args.function c.args.index c.requires.function c.requires.index in
    omega (arith, c.start-start.ensures)

pub returns : goal.returns
returns c =
    let t = c.args.tables.now in
    let f = c.args.function in
    let i = c.args.index in
    let word = c.args.word in
    entry_set t f i word (set t.words (c.start-start.result + i) word) (there t f c.requires.function) c.requires.index (ap (λ (n : ℕ). set t.words (n + i) word) c.start-start.ensures)
