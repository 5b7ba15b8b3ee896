use Rattle.std.proofs.Common.{ℕ, take, sym, ap, ◌∙◌}
use Rattle.tables.proofs.Ordered.{in_order, within_sizes}
use Rattle.tables.proofs.tables.Tables.first_words.Goals as goal

pub returns : goal.returns
returns c = let t = c.args.self.now in record { words = ap (λ (n : ℕ). take n t.words) c.requires ∙ sym (in_order t); fits = within_sizes t }
