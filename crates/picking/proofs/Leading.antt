-- From what each variable is given to the plan that the messages lead to. Assumes nothing.
use Rattle.std.proofs.Common.{◌≡◌, ℕ, ◌<◌, Bool, true, ◌⊎◌, List, [], ◌∷◌, map, length, get_or, Some, None, Option, sym, refl, ap, ◌∙◌, subst, ap₂, inl, inr, arith}
use Rattle.std.proofs.lemmas.List.{get_or-map}
use Rattle.std.proofs.lemmas.Bool.{both_ways, cases_lt}
use Rattle.scale.specs.Rules.{Rules}
use Rattle.scale.specs.Laws.{Plain}
use Rattle.theory.specs.Problem.{Problem, Plan, Sound, Valid, variables, functions, size, arity, at, scope_of, position, product}
use Rattle.theory.specs.Forest.{Hanging, WellHung, is_root, above, no_parent}
use Rattle.theory.specs.Messages.{Messages}
use Rattle.theory.proofs.Index.{Within, index_below}
use Rattle.theory.proofs.Positions.{map_within}
use Rattle.theory.proofs.Related.{leq_of_eq}
use Rattle.messages.specs.Combinations.{sizes_at}
use Rattle.joining.specs.Counts.{counts}
use Rattle.messages.specs.Counts.{one_entry}
use Rattle.messages.specs.Positions.{value_at}
use Rattle.messages.specs.Sent.{Sent, variable_cell, choice_cell}
use Rattle.messages.proofs.Combining.{combination_of}
use Rattle.picking.specs.LedTo.{LedTo, TakesHeld}
use Rattle.picking.specs.Steps.{LowestBest, ValueAt}

-- the values of a plan at the places of a function stand at its position
module _ (P : Problem) (sound : Sound P) (f : ℕ) (known : f < functions P) (y : Plan) (valid : Valid P y) where
  within : Within (sizes_at P f) (map y (scope_of P f))
  unfolding at
  within = map_within y (size P) (scope_of P f) (λ p h. valid (at P f p) (sound.known f p known h))

  position_low : position P f y < product (sizes_at P f)
  unfolding position
  position_low = index_below (sizes_at P f) (map y (scope_of P f)) within

  position_value : (p : ℕ) → p < arity P f → value_at P f (position P f y) p ≡ y (at P f p)
  unfolding position at
  position_value p h = ap (λ (xs : List ℕ). get_or xs p 0) (combination_of (sizes_at P f) (map y (scope_of P f)) within) ∙ get_or-map y (scope_of P f) p 0 0 h

-- the first cell, where there is one
pub some_cell : {V : Type 0} (cells : List V) → 0 < length cells → V
some_cell [] h = absurd (omega arith)
some_cell (c ∷ cells) h = c

-- what a variable hangs from, if any
parent_of : (o : Option ℕ) → (no_parent o ≡ true) ⊎ ((f : ℕ) × (o ≡ Some f))
parent_of None = inl refl
parent_of (Some f) = inr (f, refl)

module _ {V E : Type 0} (R : Rules E) (L : Plain R) (means : V → E) (within : ℕ → V → Type 0)
    (P : Problem) (sound : Sound P) (kept : ℕ → Bool) (H : Hanging) (well : WellHung P kept H) (choices : List ℕ) (y : Plan) where
  -- the message of a root at a value where it is highest
  module _ (cut : ℕ → Plan → E) (m : Messages R P H cut) (n : Messages counts P H one_entry) (cells : List V) (d : V)
      (sent : Sent R means within P kept H cut m n cells choices) (v : ℕ) (known : v < variables P) (root : is_root H v ≡ true)
      (best : LowestBest R means cells v (size P v) (y v)) where
    cell_is : (x : ℕ) → x < size P v → means (get_or cells (variable_cell v x) d) ≡ m.q v x
    cell_is x h = (sent.variables v known x h d).exact

    root_highest : m.q v (y v) ≡ m.best v
    root_highest =
        let top = m.root v known root in
        let (x, h, e) = top.attained in
        L.antisym (m.q v (y v)) (m.best v) (top.bound (y v) best.fits)
        (subst (λ (a : E). R.leq a (m.q v (y v)) ≡ true) e
        (sym (ap₂ R.leq (cell_is x h) (cell_is (y v) best.fits)) ∙ best.highest x d h))

    root_lowest : (x : ℕ) → x < size P v → m.q v x ≡ m.best v → x < y v → ⊥
    root_lowest x h e less =
        both_ways (R.leq (m.q v (y v)) (m.q v x))
        (sym (ap₂ R.leq (cell_is (y v) best.fits) (cell_is x h)) ∙ best.lowest x d less)
        (leq_of_eq R L (root_highest ∙ sym e))

  module _ (cells : List V) (roots : (v : ℕ) → v < variables P → is_root H v ≡ true → LowestBest R means cells v (size P v) (y v))
      (below : (v f : ℕ) → v < variables P → H.var_parent v ≡ Some f → ValueAt P f (get_or choices (choice_cell f (y (above P H f))) 0) v (y v)) where
    valid : Valid P y
    valid v known = elim (parent_of (H.var_parent v)) [ inl root ↦ (roots v known root).fits | inr (f, parent) ↦ (below v f known parent).fits ]

    -- what f takes at its parent's value is what the variables below it have
    takes_below : (cut : ℕ → Plan → E) (m : Messages R P H cut) (takes : ℕ → ℕ → Plan) → TakesHeld R means within P kept H cut m choices takes →
        (v f : ℕ) → v < variables P → H.var_parent v ≡ Some f → y v ≡ takes f (y (above P H f)) v
    takes_below cut m takes held v f known parent =
        let there = well.var_known v f known parent in
        let x = y (above P H f) in
        let (taken, stands) = held f x there (valid (above P H f) (sound.known f (H.fun_parent f) there (well.fun_place f there))) in
        let z = takes f x in
        let ok = taken.reaches.valid in
        let (p, h, here, is-kept) = well.var_kept v f known parent in
        let low = subst (λ (i : ℕ). i < product (sizes_at P f)) stands (position_low P sound f there z ok) in
        (below v f known parent).stands p h here low
        ∙ ap (λ (i : ℕ). value_at P f i p) (sym stands)
        ∙ position_value P sound f there z ok p h
        ∙ ap z here

    pub led_to : V → LedTo R means within P kept H cells choices y
    led_to d = record {
      chosen = λ cut m n sent takes held. record {
        fits = λ v known root. (roots v known root).fits;
        highest = λ v known root. root_highest cut m n cells d sent v known root (roots v known root);
        lowest = λ v x known root h e. elim (cases_lt x (y v)) [ inl less ↦ absurd (root_lowest cut m n cells d sent v known root (roots v known root) x h e less) | inr low ↦ low ];
        below = takes_below cut m takes held;
      };
    }
