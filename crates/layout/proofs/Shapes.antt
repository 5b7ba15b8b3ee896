-- What holds of a layout's domains, scopes and starts, and still does with one more domain or scope. Assumes nothing.
use Rattle.std.proofs.Common.{◌≡◌, ℕ, suc, ◌+◌, ◌*◌, ◌<◌, ◌≤◌, ◌≢◌, List, [], ◌∷◌, ◌++◌, length, get_or, take, set, sum_by, sym, refl, ap, ◌∙◌, subst, ap₂, ⊎_elim, arith}
use Rattle.std.proofs.lemmas.List.{get_or_append_left, get_or-map, get_or-set_same, get_or-set_other, get_or-take, get_or_push, length-map, length_push, length-take, take_all, take-append-le}
use Rattle.std.proofs.lemmas.List.Sums.{sum_by-cons, sum_by_push}
use Rattle.std.proofs.lemmas.Bool.{cases_eq, cases_lt, cases_order}
use Rattle.theory.specs.Sizes.{combinations, EachScope, Known}
use Rattle.short_list.specs.View.{items_of}
use Rattle.short_list.proofs.Lengths.{few_items}
use Rattle.layout.specs.declared.scope.Scope.{Scope}
use Rattle.layout.specs.declared.layout.Layout.{Layout}
use Rattle.layout.specs.Scopes.{listed, Placed}
use Rattle.layout.specs.View.{domains_of, scopes_of}

-- known variables have as many combinations where there is one more variable
pub combinations_more : (domains : List ℕ) (s : ℕ) (scope : List ℕ) → Known (length domains) scope → combinations (domains ++ (s ∷ [])) scope ≡ combinations domains scope
combinations_more domains s [] known = refl
combinations_more domains s (v ∷ scope) known =
    ap₂ ◌*◌ (get_or_append_left domains (s ∷ []) 0 v (known 0 (omega arith))) (combinations_more domains s scope (λ p h. known (suc p) (omega arith)))

words_more : (domains : List ℕ) (s : ℕ) (scopes : List (List ℕ)) → EachScope (Known (length domains)) scopes → sum_by (combinations (domains ++ (s ∷ []))) scopes ≡ sum_by (combinations domains) scopes
words_more domains s [] known = refl
words_more domains s (x ∷ scopes) known =
    sum_by-cons (combinations (domains ++ (s ∷ []))) x scopes
    ∙ ap₂ ◌+◌ (combinations_more domains s x (known 0 (omega arith))) (words_more domains s scopes (λ f h. known (suc f) (omega arith)))
    ∙ sym (sum_by-cons (combinations domains) x scopes)

each_push : (P : List ℕ → Type 0) (scopes : List (List ℕ)) (scope : List ℕ) → EachScope P scopes → P scope → EachScope P (scopes ++ (scope ∷ []))
each_push P scopes scope each new f h =
    let long = length_push scopes scope in
    ⊎_elim
    (λ (lt : f < length scopes). subst P (sym (get_or_append_left scopes (scope ∷ []) [] f lt)) (each f lt))
    (λ (le : length scopes ≤ f). subst P (sym (get_or_push scopes scope [] f (omega arith))) new)
    (cases_lt f (length scopes))

each_take : (P : List ℕ → Type 0) (n : ℕ) (scopes : List (List ℕ)) → EachScope P scopes → EachScope P (take n scopes)
each_take P n scopes each f h =
    let long = length-take n scopes in
    subst P (sym (get_or-take n scopes f [] (omega arith))) (each f (omega arith))

-- what always holds of a layout
pub record Fitting (domains : List ℕ) (scopes : List (List ℕ)) (starts : List ℕ) : Type 0 where
  pub sizes : (v : ℕ) → v < length domains → (1 ≤ get_or domains v 0) × (get_or domains v 0 ≤ 16)
  pub places : EachScope (λ s. (1 ≤ length s) × (length s ≤ 4)) scopes
  pub known : EachScope (Known (length domains)) scopes
  pub small : EachScope (λ s. combinations domains s ≤ 1024) scopes
  pub few : sum_by (combinations domains) scopes ≤ 4096
  pub used : get_or starts (length scopes) 0 ≡ sum_by (combinations domains) scopes
  pub placed : Placed domains scopes starts

pub fitting : (l : Layout) → Fitting (domains_of l) (scopes_of l) l.starts
fitting l = record { sizes = l.sizes; places = l.places; known = l.known; small = l.small; few = l.few; used = l.used; placed = l.placed }

module _ {domains : List ℕ} {scopes : List (List ℕ)} {starts : List ℕ} (fits : Fitting domains scopes starts) where
  -- with one more variable, of this size
  module _ (s : ℕ) (some : 1 ≤ s) (few : s ≤ 16) where
    sizes_push : (v : ℕ) → v < length (domains ++ (s ∷ [])) → (1 ≤ get_or (domains ++ (s ∷ [])) v 0) × (get_or (domains ++ (s ∷ [])) v 0 ≤ 16)
    sizes_push v h =
        let long = length_push domains s in
        let Good : ℕ → Type 0 = λ n. (1 ≤ n) × (n ≤ 16) in
        ⊎_elim
        (λ (lt : v < length domains). subst Good (sym (get_or_append_left domains (s ∷ []) 0 v lt)) (fits.sizes v lt))
        (λ (le : length domains ≤ v). subst Good (sym (get_or_push domains s 0 v (omega arith))) (some, few))
        (cases_lt v (length domains))

    pub fitting_variable : Fitting (domains ++ (s ∷ [])) scopes starts
    fitting_variable =
        let words = words_more domains s scopes fits.known in
        record {
          sizes = sizes_push;
          places = fits.places;
          known = λ f h p k. let long = length_push domains s in let known = fits.known f h p k in omega arith;
          small = λ f h. subst (λ (n : ℕ). n ≤ 1024) (sym (combinations_more domains s (get_or scopes f []) (fits.known f h))) (fits.small f h);
          few = subst (λ (n : ℕ). n ≤ 4096) (sym words) fits.few;
          used = fits.used ∙ sym words;
          placed = λ f h. fits.placed f h ∙ sym (words_more domains s (take f scopes) (each_take (Known (length domains)) f scopes fits.known));
        }

  -- with one more function, of this scope
  module _ (scope : List ℕ) (at end : ℕ) (last : at ≡ length scopes + 1) (room : at < length starts) (ends : end ≡ sum_by (combinations domains) scopes + combinations domains scope) where
    words_push : sum_by (combinations domains) (scopes ++ (scope ∷ [])) ≡ end
    words_push = let push = sum_by_push (combinations domains) scopes scope in omega (arith, ends)

    used_push : get_or (set starts at end) (length (scopes ++ (scope ∷ []))) 0 ≡ sum_by (combinations domains) (scopes ++ (scope ∷ []))
    used_push =
        let long = length_push scopes scope in
        ap (λ (n : ℕ). get_or (set starts at end) n 0) (omega arith) ∙ get_or-set_same starts at end 0 room ∙ sym words_push

    placed_push : Placed domains (scopes ++ (scope ∷ [])) (set starts at end)
    placed_push f h =
        let long = length_push scopes scope in
        ⊎_elim
        (λ (e : f ≡ at).
        subst (λ (g : ℕ). get_or (set starts at end) g 0 ≡ sum_by (combinations domains) (take g (scopes ++ (scope ∷ [])))) (sym e)
        (get_or-set_same starts at end 0 room ∙ sym words_push ∙ ap (sum_by (combinations domains)) (sym (take_all at (scopes ++ (scope ∷ [])) (omega arith)))))
        (λ (d : f ≢ at).
        get_or-set_other starts at f end 0 d ∙ fits.placed f (omega arith)
        ∙ ap (sum_by (combinations domains)) (sym (take-append-le f scopes (scope ∷ []) (omega arith))))
        (cases_eq f at)

    pub fitting_function : (1 ≤ length scope) × (length scope ≤ 4) → Known (length domains) scope → combinations domains scope ≤ 1024 → end ≤ 4096 → Fitting domains (scopes ++ (scope ∷ [])) (set starts at end)
    fitting_function places known small few = record {
      sizes = fits.sizes;
      places = each_push (λ s. (1 ≤ length s) × (length s ≤ 4)) scopes scope fits.places places;
      known = each_push (Known (length domains)) scopes scope fits.known known;
      small = each_push (λ s. combinations domains s ≤ 1024) scopes scope fits.small small;
      few = subst (λ (n : ℕ). n ≤ 4096) (sym words_push) few;
      used = used_push;
      placed = placed_push;
    }

-- no variable stands twice in a scope
listed_distinct : (s : Scope) (p q : ℕ) → p < length (listed s) → q < length (listed s) → get_or (listed s) p 0 ≡ get_or (listed s) q 0 → p ≡ q
listed_distinct s p q h k e =
    ⊎_elim (λ (same : p ≡ q). same) (⊎_elim (λ (lt : p < q). absurd (s.distinct p q lt k e)) (λ (gt : q < p). absurd (s.distinct q p gt h (sym e)))) (cases_order p q)

no_scope : Scope
no_scope = record { variables = record { items = 0 ∷ 0 ∷ 0 ∷ 0 ∷ []; count = 0; room = refl; few = omega arith }; distinct = λ p q h k e. omega arith }

module _ (l : Layout) where
  pub few_variables : length (domains_of l) ≤ 64
  few_variables = few_items l.domains

  pub few_functions : length (scopes_of l) ≤ 64
  few_functions = let few = few_items l.scopes in let long = length-map (items_of l.scopes) listed in omega arith

  pub distinct_here : (f p q : ℕ) → f < length (scopes_of l) → p < length (get_or (scopes_of l) f []) → q < length (get_or (scopes_of l) f []) →
      get_or (get_or (scopes_of l) f []) p 0 ≡ get_or (get_or (scopes_of l) f []) q 0 → p ≡ q
  distinct_here f p q h =
      let scope = get_or (items_of l.scopes) f no_scope in
      let is : get_or (scopes_of l) f [] ≡ listed scope = let long = length-map (items_of l.scopes) listed in get_or-map listed (items_of l.scopes) f no_scope [] (omega arith) in
      subst (λ (s : List ℕ). p < length s → q < length s → get_or s p 0 ≡ get_or s q 0 → p ≡ q) (sym is) (listed_distinct scope p q)
