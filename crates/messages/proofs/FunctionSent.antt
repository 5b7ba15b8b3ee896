-- The best entries of a function are its message, and where they stand are its choices. Assumes nothing.
use Rattle.std.proofs.Common.{◌≡◌, ℕ, ◌<◌, min, Bool, true, List, [], ◌∷◌, length, take, get_or, Some, None, Option, sym, refl, ap, ◌∙◌, subst, ap₂, arith}
use Rattle.std.proofs.lemmas.List.{get_or-take}
use Rattle.std.proofs.lemmas.Bool.{both_ways}
use Rattle.scale.specs.Rules.{Rules}
use Rattle.scale.specs.Laws.{Plain}
use Rattle.theory.specs.Problem.{Problem, Plan, Sound, variables, functions, function, size, at, arity}
use Rattle.theory.specs.Sizes.{Fits}
use Rattle.theory.specs.Cut.{IsCut}
use Rattle.theory.specs.Forest.{Hanging, WellHung, above}
use Rattle.theory.specs.Messages.{Messages}
use Rattle.theory.proofs.Extremes.{highest_unique}
use Rattle.theory.proofs.Hangs.{hangs_from}
use Rattle.theory.proofs.Powers.{leq_refl}
use Rattle.messages.specs.declared.place.Place.{Place}
use Rattle.messages.specs.declared.places.Places.{Places}
use Rattle.messages.specs.Combinations.{combination, sizes_at}
use Rattle.joining.specs.Counts.{counts}
use Rattle.messages.specs.Counts.{one_entry}
use Rattle.joining.specs.Standing.{StandsFor}
use Rattle.messages.specs.Holding.{Holds}
use Rattle.messages.specs.Places.{PlacesOf, CutWords, sizes_in}
use Rattle.messages.specs.Positions.{table_length, ParentAt, CutEntries, from_below, given_at, FirstHighest}
use Rattle.messages.specs.Sent.{variable_cell, function_cell, VariableSent, FunctionSent}
use Rattle.messages.specs.Upward.{upward_at, gives, Best, best_of, Candidate, Chosen, Supplied, Leads, Running, BestEntries}
use Rattle.messages.proofs.AtPositions.{some_position, message_is, takes_is, plan_there}
use Rattle.messages.proofs.Counting.{r_few}
use Rattle.messages.proofs.GivenCounts.{given_within}
use Rattle.messages.proofs.OfPlaces.{sizes_are, cut_index_is, upward_is}

some_element : {T : Type 0} (xs : List T) → 0 < length xs → T
some_element [] h = absurd (omega arith)
some_element (x ∷ xs) h = x

module _ {V E : Type 0} (R : Rules E) (L : Plain R) (means : V → E) (within : ℕ → V → Type 0)
    (P : Problem) (fits : Fits P) (kept : ℕ → Bool) (H : Hanging) (well : WellHung P kept H) (f : ℕ) (known : f < functions P)
    (s : Places) (of : PlacesOf P kept H f s) (cuts : List ℕ) (laid : CutWords R s (function P f).words cuts) (whole : length cuts ≡ table_length P f) where
  sound : Sound P
  sound = fits.sound

  cut_at : ℕ → E
  cut_at j = R.reads (get_or cuts j 0)

  -- the cut table as the words hold it
  entries : CutEntries R P kept f cut_at
  unfolding cut_at
  entries k (low, own) =
      let lowest = laid k low (cut_index_is P kept H f s of k ∙ own) 0 in
      let (j, (h, e), is) = lowest.attained in
      record {
        attained = (j, (h, sym (cut_index_is P kept H f s of j) ∙ e), is);
        bound = λ j (h, e). lowest.bound j (h, cut_index_is P kept H f s of j ∙ e);
      }

  -- candidates are the positions of the cut table where the parent has the value x
  to_candidate : (x j : ℕ) → ParentAt P kept H f x j → Candidate s x j
  to_candidate x j ((low, own), here) = (cut_index_is P kept H f s of j ∙ own, ap₂ (λ (sizes : List ℕ) (p : ℕ). get_or (combination sizes j) p 0) (sizes_are P kept H f s of) of.parent ∙ here)

  from_candidate : (x j : ℕ) → j < table_length P f → Candidate s x j → ParentAt P kept H f x j
  from_candidate x j low (own, here) =
      ((low, sym (cut_index_is P kept H f s of j) ∙ own), sym (ap₂ (λ (sizes : List ℕ) (p : ℕ). get_or (combination sizes j) p 0) (sizes_are P kept H f s of) of.parent) ∙ here)

  up_is : {M : Type 0} (S : Rules M) (q : ℕ → ℕ → M) (j : ℕ) → upward_at S s q j ≡ from_below S P H q f (combination (sizes_at P f) j)
  up_is S q j = upward_is P kept H f s of S q (combination (sizes_in s) j) ∙ ap (λ (sizes : List ℕ). from_below S P H q f (combination sizes j)) (sizes_are P kept H f s of)

  gives_is : (q : ℕ → ℕ → E) (j : ℕ) → gives R s cuts q j ≡ given_at R P H q cut_at f j
  unfolding cut_at
  gives_is q j = ap (R.join (R.reads (get_or cuts j 0))) (up_is R q j)

  -- of how many entries the message at x may be joined
  most : Messages counts P H one_entry → ℕ → ℕ
  most n x = min (n.r f x) 1024

  module _ (cut : ℕ → Plan → E) (is_cut : IsCut R P kept cut) (m : Messages R P H cut) (n : Messages counts P H one_entry)
      (before : List V) (below : (u : ℕ) → u < variables P → H.var_parent u ≡ Some f → VariableSent R means within P kept H cut m n before u) where
    supplied : Supplied R means within s (length cuts) before m.q n.q (most n)
    unfolding most
    supplied = record {
      below = λ p x h on k.
          let is = of.each p (omega (arith, of.count)) in
          let place : p < arity P f = omega (arith, of.count) in
          let hung = hangs_from (H.var_parent (at P f p)) f (sym (ap (λ (a : Place). a.below) is) ∙ on) in
          subst (λ (a : Place). Holds means within before (variable_cell a.variable x) (m.q a.variable x) (n.q a.variable x)) (sym is)
          (below (at P f p) (sound.known f p known place) hung x (subst (λ (a : Place). x < a.size) is k));
      few = λ x j low candidate.
          let there = from_candidate x j (omega (arith, whole)) candidate in
          let (y, valid, here, is) = plan_there P sound kept H well f known x j there in
          let inside : x < size P (above P H f) = subst (λ (a : ℕ). a < size P (above P H f)) here (valid (above P H f) (sound.known f (H.fun_parent f) known (well.fun_place f known))) in
          let bound = given_within P sound kept H well f known n x inside j there in
          let few = r_few P sound kept H well n f x known inside in
          let sixty-four = fits.few_functions in
          omega (arith, up_is counts n.q j);
      small = λ x. omega arith;
    }

    module _ (x : ℕ) (inside : x < size P (above P H f)) (b : Best V) (leads : Leads R means within (Candidate s x) (gives R s cuts m.q) (most n x) (table_length P f) b) where
      abbrev best : E
      best = given_at R P H m.q cut_at f b.index

      first_highest : FirstHighest R P H m.q kept cut_at f x best b.index
      first_highest = record {
        here = from_candidate x b.index leads.here.0 leads.here.1;
        reached = refl;
        bound = λ j there. sym (ap₂ R.leq (gives_is m.q j) (gives_is m.q b.index)) ∙ leads.bound j there.0.0 (to_candidate x j there);
        first = λ j there is earlier.
            let lower = leads.first j earlier (to_candidate x j there) in
            let same : gives R s cuts m.q b.index ≡ gives R s cuts m.q j = gives_is m.q b.index ∙ sym is ∙ sym (gives_is m.q j) in
            both_ways (R.leq (gives R s cuts m.q b.index) (gives R s cuts m.q j)) lower (subst (λ (a : E). R.leq (gives R s cuts m.q b.index) a ≡ true) same (leq_refl L _));
      }

      best_is : best ≡ m.r f x
      best_is = highest_unique R L (λ y k. (k, refl)) (λ y k. k) (message_is R L P sound kept H well f known cut_at entries cut is_cut m.q x best b.index first_highest) (m.function f x known inside)

      -- the message in its cell, and the index that the function takes
      message_stands : StandsFor means within (m.r f x) (n.r f x) b.value
      unfolding most
      message_stands =
          let few = r_few P sound kept H well n f x known inside in
          let sixty-four = fits.few_functions in
          let all : min (n.r f x) 1024 ≡ n.r f x = omega arith in
          record {
            exact = leads.stands.exact ∙ gives_is m.q b.index ∙ best_is;
            few = subst (λ (k : ℕ). within k b.value) all leads.stands.few;
          }

    -- each value of the parent has a best entry
    leading : (x : ℕ) → x < size P (above P H f) → (cells : V → V) → V → (o : Option ℕ) → ((d : V) → Running R means within (Candidate s x) (gives R s cuts m.q) (most n x) (table_length P f) (best_of o (cells d))) →
        (i : ℕ) × (o ≡ Some i) × ((d : V) → Leads R means within (Candidate s x) (gives R s cuts m.q) (most n x) (table_length P f) (record { value = cells d; index = i }))
    leading x inside cells some None none = let (i, there) = some_position P sound kept H well f known x inside in absurd (none some i there.0.0 (to_candidate x i there))
    leading x inside cells some (Some i) leads = (i, refl, leads)

    -- what the boards then hold
    pub function_sent : (row : List (Option ℕ)) (cells : List V) (choices : List ℕ) → 0 < length cells → BestEntries R means within s f cuts before (length cuts) row cells →
        Chosen (take (size P (above P H f)) row) f choices → FunctionSent R means within P kept H cut m n cells choices f
    function_sent row cells choices long running chosen x inside =
        let small : x < 16 = omega (arith, fits.small_domains (above P H f) (sound.known f (H.fun_parent f) known (well.fun_place f known))) in
        let some : V = some_element cells long in
        let held : V → V = get_or cells (function_cell f x) in
        let (i, is, leads) = leading x inside held some (get_or row x None) (λ d.
        subst (λ (i : ℕ). Running R means within (Candidate s x) (gives R s cuts m.q) (most n x) i (best_of (get_or row x None) (held d))) whole (running x small d m.q n.q (most n) supplied)) in
        let b : Best V = record { value = held some; index = i } in
        let (y, takes, stands) = takes_is R L P sound kept H well f known cut_at entries cut is_cut m x (best x inside b (leads some)) i (first_highest x inside b (leads some)) (best_is x inside b (leads some)) in (
          λ d. message_stands x inside (record { value = held d; index = i }) (leads d),
          (y, takes, stands ∙ sym (chosen x i (get_or-take (size P (above P H f)) row x None inside ∙ is))),
        )
