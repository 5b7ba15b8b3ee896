use Rattle.std.proofs.Common.{◌≡◌, ℕ, replicate, ap, ◌∙◌}
use Rattle.solving.proofs.Blanks.{all_blank, all_unweighed}
use Rattle.solving.proofs.clearing.clear_boards.Goals as goal

pub returns-clause-blank : goal.returns-clause-blank
returns-clause-blank g c =
    let s = g.V.Scale in
    let cells : c.clear.new.self.cells.now ≡ replicate 2304 c.neutral.result = c.clear.ensures.after ∙ ap (λ (n : ℕ). replicate n c.neutral.result) c.requires.values in
    let choices : c.clear-2.new.self.cells.now ≡ replicate 1024 0 = c.clear-2.ensures.after ∙ ap (λ (n : ℕ). replicate n 0) c.requires.choices in
    all_blank s.rules s.means s.within g.met.V.Scale.ties c.neutral.result c.neutral.ensures.means c.neutral.ensures.within _ _ cells choices

pub returns-clause-unweighed : goal.returns-clause-unweighed
returns-clause-unweighed g c =
    let s = g.V.Scale in
    let cells : c.clear.new.self.cells.now ≡ replicate 2304 c.neutral.result = c.clear.ensures.after ∙ ap (λ (n : ℕ). replicate n c.neutral.result) c.requires.values in
    let choices : c.clear-2.new.self.cells.now ≡ replicate 1024 0 = c.clear-2.ensures.after ∙ ap (λ (n : ℕ). replicate n 0) c.requires.choices in
    all_unweighed s.rules s.means s.within g.met.V.Scale.ties c.neutral.result c.neutral.ensures.means c.neutral.ensures.within _ _ cells choices
