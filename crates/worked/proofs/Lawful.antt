-- Laws worked through. Assumes nothing.
use Rattle.std.proofs.Common.{◌≡◌, ℕ, List, get_or, ℤ, pos, int_le, refl, ap, arith}
use Rattle.std.proofs.lemmas.Bool.{false≢true}
use Rattle.std.proofs.lemmas.Int.{ints}
use Rattle.scale.specs.Whole.{whole_laws}
use Rattle.worked.specs.Laws.{GenerousGap, SameByValues}

pub generous_gap : GenerousGap
generous_gap = record {
  plain = whole_laws;
  gaps = record {
    covers = λ a b h. grind (arith, ints);
    rises = λ a b. grind (arith, ints);
    none = λ a b h. grind (arith, ints);
  };
  more = refl;
}

pub same_by_values : SameByValues
same_by_values = record {
  same = record { domains = refl; scopes = refl; entries = refl };
  other_words = λ e. let first : 0 ≡ 1000001 = ap (λ (words : List ℕ). get_or words 0 0) e in omega arith;
  other = λ s. false≢true (ap (λ (entries : List ℤ). int_le (pos 1) (get_or entries 0 (pos 0))) s.entries);
}
