use Rattle.std.proofs.Common.{ℕ, ◌-◌, take, drop, ◌∙◌, ap₂, arith}
use Rattle.tables.proofs.Ordered.{table_at, table_within}
use Rattle.tables.proofs.tables.Tables.between.Goals as goal

pub offset_bounds-self-start : goal.offset_bounds-self-start
offset_bounds-self-start c = let h = table_within c.args.self.now c.args.function c.requires.known in record { fits = omega (arith, c.requires.start) }

pub slice_bounds-result-count : goal.slice_bounds-result-count
slice_bounds-result-count c = let h = table_within c.args.self.now c.args.function c.requires.known in omega (arith, c.requires.start, c.requires.end)

pub slice_bounds-result-start : goal.slice_bounds-result-start
slice_bounds-result-start c = let h = table_within c.args.self.now c.args.function c.requires.known in omega (arith, c.requires.start, c.requires.end)

pub slice_bounds-result-end : goal.slice_bounds-result-end
slice_bounds-result-end c =
    let h = table_within c.args.self.now c.args.function c.requires.known in
    let room = c.args.self.now.room in
    omega (arith, c.requires.start, c.requires.end)

pub returns : goal.returns
returns c =
    let t = c.args.self.now in
    ap₂ (λ (from to : ℕ). take (to - from) (drop from t.words)) c.requires.start c.requires.end ∙ table_at t c.args.function c.requires.known
