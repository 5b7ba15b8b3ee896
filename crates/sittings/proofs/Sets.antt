-- What says no entry of a table. Assumes nothing.
use Rattle.std.proofs.Common.{◌≡◌, ℕ, List, [], ◌∷◌, length, codes, Bor, refl, ap, ◌∙◌, sym, subst}
use Rattle.std.proofs.Math.ListN.{length-map}
use Rattle.sittings.specs.Numbers.{IsWord}
use Rattle.sittings.specs.Spoken.{texts, AreSet, Means, MeansAtMostNumbers, TakesNumbers}
use Rattle.sittings.specs.declared.command.Command.{Command}
use Rattle.sittings.specs.declared.command.Command.TheVariants.{Open, Read, Write, Ask}
use Rattle.sittings.specs.declared.request.Request.TheVariants.{Variable, Function, Set, Weight, Score, Bounded, Straight, Report}

by_cases : (given : List (List ℕ)) → ((function index word : ℕ) → AreSet given function index word → ⊥) →
    (c : Command) → Means (codes "set") given c → TakesNumbers c
by_cases given h (Open code) m = tt
by_cases given h (Read path) m = let e : codes "set" ≡ codes "read" = m.0 in cc
by_cases given h (Write path) m = let e : codes "set" ≡ codes "write" = m.0 in cc
by_cases given h (Ask (Variable size)) m = tt
by_cases given h (Ask (Function scope)) m = tt
by_cases given h (Ask (Set function index word)) m = h function index word m.1
by_cases given h (Ask (Weight function place)) m = tt
by_cases given h (Ask (Score list)) m = tt
by_cases given h (Ask Bounded) m = let e : codes "set" ≡ codes "bounded" = m.0 in cc
by_cases given h (Ask Straight) m = let e : codes "set" ≡ codes "straight" = m.0 in cc
by_cases given h (Ask Report) m = let e : codes "set" ≡ codes "report" = m.0 in cc

without_entry : (given : List (List ℕ)) → ((function index word : ℕ) → AreSet given function index word → ⊥) → MeansAtMostNumbers (codes "set") given
without_entry given h = record { numbers_alone = by_cases given h }

-- Three words of which the last is no word of a table.
pub without_word : (a b c : List ℕ) → ((w : ℕ) → IsWord c w → ⊥) → (given : List (List ℕ)) → given ≡ a ∷ b ∷ c ∷ [] → MeansAtMostNumbers (codes "set") given
without_word a b c h given g =
    without_entry given (λ function index word s.
    let e : s.2 ≡ c = cc (s.3, g) in h word (subst (λ (t : List ℕ). IsWord t word) e s.8))

-- More or fewer than three words. The first part says nothing: it shows `grind` the texts.
pub other_count : (given : List (Bor (List ℕ))) → (length given ≡ 3 → ⊥) → (texts given ≡ texts given) × MeansAtMostNumbers (codes "set") (texts given)
other_count given h = (
  refl,
  without_entry (texts given) (λ function index word s.
      h (sym (length-map given (λ (w : Bor (List ℕ)). w.now)) ∙ ap length s.3)),
)
