-- The gaps along a place of a function's table are those of the function, and so is the widest. Assumes nothing.
use Rattle.std.proofs.Common.{◌≡◌, ℕ, ◌+◌, ◌*◌, ◌/◌, ◌%◌, ◌<◌, List, map, length, get_or, take, drop, sym, refl, ap, ◌∙◌, subst, ap₂, mod-lt, add-one, arith}
use mathlib.Core.Path.{fun_ext}
use lib.Arith.{digits_lt, digits_div, digits_mod}
use Rattle.std.proofs.lemmas.List.{get_or-drop, get_or-take, length-drop, length-take}
use Rattle.scale.specs.Rules.{Rules}
use Rattle.theory.specs.Cut.{Swing, Weighs}
use Rattle.theory.specs.Joins.{Highest, Lowest}
use Rattle.theory.specs.Problem.{Problem, Plan, Valid, Sound, put, product, index, size, variables, functions, function, scope_of, arity, at, position, entry}
use Rattle.theory.proofs.Index.{index_below}
use Rattle.theory.proofs.Plans.{put_same, nothing, nothing_valid}
use Rattle.theory.proofs.Positions.{map_within, positions}
use Rattle.weights.specs.Swings.{values_at, stride_at, base, along, SwingFrom, Widest}
use Rattle.weights.proofs.Bases.{from_base, same_digits, count, inside}
use Rattle.weights.proofs.Split.{product_split, index_split, put_values}
use Rattle.weights.proofs.Strides.{some_value}

-- the index of a plan's values at some variables
at_variables : Problem → Plan → List ℕ → ℕ
at_variables P y scope = index (map (size P) scope) (map y scope)

module _ (P : Problem) (sound : Sound P) (f : ℕ) (known : f < functions P) (p : ℕ) (place : p < arity P f) where
  -- the combination of a plan's values at the places before p, and at those after it
  early : Plan → ℕ
  early y = at_variables P y (take p (scope_of P f))

  late : Plan → ℕ
  late y = at_variables P y (drop (p + 1) (scope_of P f))

  -- how many combinations the earlier places have
  pub before : ℕ
  before = product (map (size P) (take p (scope_of P f)))

  pub whole : length (function P f).words ≡ before * values_at P f p * stride_at P f p
  unfolding before at
  whole = sound.full f known ∙ rw (add-one p) (product_split (size P) (scope_of P f) p place)

  pub some_word : 0 < length (function P f).words
  some_word = omega (arith, (positions P sound f known).within (nothing P) (nothing_valid P sound))

  position_put : (y : Plan) (x : ℕ) → position P f (put y (at P f p) x) ≡ (early y * values_at P f p + x) * stride_at P f p + late y
  unfolding position at early late at_variables
  position_put y x =
      ap (index (map (size P) (scope_of P f))) (put_values y (scope_of P f) p x place (λ q k. sound.distinct f q p known k place))
      ∙ rw (add-one p) (index_split (size P) y (scope_of P f) p x place)

  -- a plan's values at some of the places
  below : (y : Plan) → Valid P y → (scope : List ℕ) → ((q : ℕ) → q < length scope → get_or scope q 0 < variables P) → at_variables P y scope < product (map (size P) scope)
  unfolding at_variables
  below y valid scope inner = index_below (map (size P) scope) (map y scope) (map_within y (size P) scope (λ q k. valid (get_or scope q 0) (inner q k)))

  early_below : (y : Plan) → Valid P y → early y < before
  unfolding early before at
  early_below y valid = below y valid (take p (scope_of P f)) (λ q k.
      let long = length-take p (scope_of P f) in
      subst (λ (v : ℕ). v < variables P) (sym (get_or-take p (scope_of P f) q 0 (omega arith))) (sound.known f q known (omega arith)))

  late_below : (y : Plan) → Valid P y → late y < stride_at P f p
  unfolding late at
  late_below y valid = below y valid (drop (p + 1) (scope_of P f)) (λ q k.
      let long = length-drop (p + 1) (scope_of P f) in
      subst (λ (v : ℕ). v < variables P) (sym (get_or-drop (p + 1) (scope_of P f) q 0)) (sound.known f (p + 1 + q) known (omega arith)))

  module _ {E : Type 0} (R : Rules E) where
    -- the gap g stands in the table, for the combination k of the other values
    abbrev Stands : ℕ → E → Type 0
    Stands k g = (k < length (function P f).words / values_at P f p) × SwingFrom R (function P f).words (values_at P f p) (stride_at P f p) (base (values_at P f p) (stride_at P f p) k) g

    -- Where k is the combination of the plan's other values, the entries along the place are those of the function.
    same_entries : (y : Plan) (k : ℕ) → early y ≡ k / stride_at P f p → late y ≡ k % stride_at P f p →
        (λ (x : ℕ). entry R P f (put y (at P f p) x)) ≡ along R (function P f).words (stride_at P f p) (base (values_at P f p) (stride_at P f p) k)
    unfolding entry
    same_entries y k u w =
        let d = values_at P f p in
        let s = stride_at P f p in
        fun_ext (λ x. ap (λ (i : ℕ). R.reads (get_or (function P f).words i 0))
        (position_put y x ∙ ap₂ (λ (q r : ℕ). (q * d + x) * s + r) u w ∙ sym (from_base d s (k / s) x (k % s))))

    to_table : (g : E) → Swing R P f p g → (k : ℕ) × Stands k g
    to_table g swing =
        let y = swing.others in
        let d = values_at P f p in
        let s = stride_at P f p in
        let low = late_below y swing.valid in
        let k = early y * s + late y in
        let same = same_entries y k (sym (digits_div (early y) low)) (sym (digits_mod (early y) low)) in
        let all = count d s before (length (function P f).words) whole some_word in (
          k,
          (
            subst (λ (m : ℕ). k < m) (sym all) (digits_lt (early_below y swing.valid) low),
            record {
              high = swing.high;
              low = swing.low;
              highest = subst (λ (h : ℕ → E). Highest R (λ x. x < d) h swing.high) same swing.highest;
              lowest = subst (λ (h : ℕ → E). Lowest R (λ x. x < d) h swing.low) same swing.lowest;
              is = swing.is;
            },
          ),
        )

    from_table : (k : ℕ) (g : E) → Stands k g → Swing R P f p g
    from_table k g (few, swing) =
        let v = at P f p in
        let d = values_at P f p in
        let s = stride_at P f p in
        let some = some_value P sound f known p place in
        let there : base d s k < length (function P f).words = omega (arith, inside d s before (length (function P f).words) whole some_word k few 0 some) in
        let (y, valid, at_base) = (positions P sound f known).each (base d s k) there in
        let low = late_below y valid in
        let first : base d s k ≡ (k / s * d + 0) * s + k % s = omega (arith, from_base d s (k / s) 0 (k % s)) in
        let is = sym (position_put y (y v)) ∙ ap (position P f) (put_same y v (y v) refl) ∙ at_base ∙ first in
        let (u, w) = same_digits d s (early y) (y v) (late y) (k / s) 0 (k % s) (valid v (sound.known f p known place)) some low (mod-lt k (omega arith)) is in
        let same = sym (same_entries y k u w) in
        record {
          others = y;
          valid = valid;
          high = swing.high;
          low = swing.low;
          highest = subst (λ (h : ℕ → E). Highest R (λ x. x < d) h swing.high) same swing.highest;
          lowest = subst (λ (h : ℕ → E). Lowest R (λ x. x < d) h swing.low) same swing.lowest;
          is = swing.is;
        }

    -- What is widest in the table is the weight.
    pub weighs : (table : List ℕ) (values stride : ℕ) (w : E) → table ≡ (function P f).words → values ≡ values_at P f p → stride ≡ stride_at P f p →
        Widest R table values stride (base values stride) (length table / values) w → Weighs R P f p w
    weighs table values stride w t v s widest =
        let ws = (function P f).words in
        let d = values_at P f p in
        let by-table = subst (λ (xs : List ℕ). Widest R xs values stride (base values stride) (length xs / values) w) t widest in
        let by_values = subst (λ (n : ℕ). Widest R ws n stride (base n stride) (length ws / n) w) v by-table in
        let here = subst (λ (n : ℕ). Widest R ws d n (base d n) (length ws / d) w) s by_values in
        let (k, few, swing) = here.attained in
        record { attained = from_table k w (few, swing); bound = λ g other. let (k', (few', swing')) = to_table g other in here.bound k' g few' swing' }
