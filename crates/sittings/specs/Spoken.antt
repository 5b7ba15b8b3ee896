-- What a name and the words after it say. Assumes nothing.
use Rattle.std.specs.Prelude.{◌≡◌, ℕ, List, [], ◌∷◌, map, codes}
use Rattle.std.specs.Borrow.{Bor}
use Rattle.sittings.specs.declared.command.Command.{Command}
use Rattle.sittings.specs.declared.command.Command.TheVariants.{Open, Read, Write, Ask}
use Rattle.sittings.specs.declared.request.Request.{Request}
use Rattle.sittings.specs.declared.request.Request.TheVariants.{Variable, Function, Set, Weight, Score, Bounded, Straight, Report}
use Rattle.sittings.specs.Numbers.{IsNumber, number, IsWord, AreNumbers}

abbrev pub texts : List (Bor (List ℕ)) → List (List ℕ)
texts words = map (λ (w : Bor (List ℕ)). w.now) words

-- three words: a function, an index and a word of a table
abbrev pub AreSet : List (List ℕ) → ℕ → ℕ → ℕ → Type 0
AreSet given function index word =
    (a b c : List ℕ) × (given ≡ a ∷ b ∷ c ∷ []) × IsNumber a × (function ≡ number a) × IsNumber b × (index ≡ number b) × IsWord c word

abbrev pub Asks : List ℕ → List (List ℕ) → Request → Type 0
Asks name given (Variable size) = (name ≡ codes "variable") × AreNumbers given (size ∷ [])
Asks name given (Function scope) = (name ≡ codes "function") × AreNumbers given scope.items
Asks name given (Set function index word) = (name ≡ codes "set") × AreSet given function index word
Asks name given (Weight function place) = (name ≡ codes "weight") × AreNumbers given (function ∷ place ∷ [])
Asks name given (Score list) = (name ≡ codes "score") × AreNumbers given list.items
Asks name given Bounded = (name ≡ codes "bounded") × (given ≡ [])
Asks name given Straight = (name ≡ codes "straight") × (given ≡ [])
Asks name given Report = (name ≡ codes "report") × (given ≡ [])

abbrev pub Means : List ℕ → List (List ℕ) → Command → Type 0
Means name given (Open code) = (name ≡ codes "open") × AreNumbers given (code ∷ [])
Means name given (Read path) = (name ≡ codes "read") × (given ≡ path.now ∷ [])
Means name given (Write path) = (name ≡ codes "write") × (given ≡ path.now ∷ [])
Means name given (Ask request) = Asks name given request

-- a command to which numbers are given
abbrev pub TakesNumbers : Command → Type 0
TakesNumbers (Open code) = Unit {0}
TakesNumbers (Ask (Variable size)) = Unit {0}
TakesNumbers (Ask (Function scope)) = Unit {0}
TakesNumbers (Ask (Weight function place)) = Unit {0}
TakesNumbers (Ask (Score list)) = Unit {0}
TakesNumbers _ = ⊥

-- The name and the words after it mean no command.
pub record MeansNothing (name : List ℕ) (given : List (List ℕ)) : Type 0 where
  pub no_command : (c : Command) → Means name given c → ⊥

-- The name and the words after it mean no command, or one to which numbers are given.
pub record MeansAtMostNumbers (name : List ℕ) (given : List (List ℕ)) : Type 0 where
  pub numbers_alone : (c : Command) → Means name given c → TakesNumbers c

-- The name means no command to which these numbers are given.
pub record NumbersMeanNothing (name : List ℕ) (ns : List ℕ) : Type 0 where
  pub no_numbered : (given : List (List ℕ)) → AreNumbers given ns → (c : Command) → Means name given c → TakesNumbers c → ⊥
