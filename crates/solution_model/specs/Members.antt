-- The members of a finite set as a list.
use Rattle.std.specs.Prelude.{◌≡◌, T, List, [], ◌∷◌, refl, is_some, cond, Option, Some, None, Bool, true, false}
use Rattle.std.specs.Prelude.{map as each}
use Rattle.std.proofs.Common.{sym, ◌∙◌, ap}
use Rattle.std.proofs.lemmas.Map.Keys.{IsDistinct-from_sorted}
use Rattle.std.specs.List.{AllByRecursion, IsDistinct, list_any}
use Rattle.std.specs.List.Sorted.{IsStrictlySortedBy}
use Rattle.std.specs.Ordering.{eq_by_cmp, is_lt}
use Rattle.std.specs.declared.cmp.Ordering.{Ordering}
use Rattle.std.specs.declared.cmp.Ordering.TheVariants.{Less, Equal, Greater}
use Rattle.std.specs.Cmp.{IsTotalOrder}
use Rattle.std.specs.FinMap as map
use Rattle.std.specs.FinMap.{FinMap, is_sorted}
use Rattle.std.specs.FinMap.Entries.{below_all}
use Rattle.std.specs.FinSet as set
use Rattle.std.specs.FinSet.{FinSet, IsAntisymmetric}
use Rattle.hypertrie_model.specs.Folds.{marked}
use Rattle.hypertrie_model.specs.FoldLaws.{get-marked}
use Rattle.hypertrie_model.specs.SetLaws.{split_left, split_right}

-- the members of a set, each once, in the order of the set
unfoldable pub members : {K : Type 0} {R : K → K → Ordering} → FinSet R → List K
members s = map.keys (marked s)

less_of : (r : Ordering) → T (is_lt r) → r ≡ Less
less_of Less h = refl
less_of Equal h = absurd h
less_of Greater h = absurd h

abbrev mark : Bool → Option (Unit {0})
mark b = cond b (Some tt) None

module _ {K X : Type 0} (R : K → K → Ordering) where
  below : (k : K) (es : List (K × X)) → T (below_all R k es) → AllByRecursion (λ y. R k y ≡ Less) (each (λ e. e.0) es)
  below k [] h = tt
  below k (e ∷ es) h = (less_of (R k e.0) (split_left _ _ h), below k es (split_right _ _ h))

  rising : (es : List (K × X)) → T (is_sorted R es) → IsStrictlySortedBy R (each (λ e. e.0) es)
  unfolding IsStrictlySortedBy
  rising [] h = tt
  rising (e ∷ es) h = (below e.0 es (split_left _ _ h), rising es (split_right _ _ h))

-- no key of a map stands twice
pub distinct-keys : {K X : Type 0} {R : K → K → Ordering} (m : FinMap R X) → IsDistinct (eq_by_cmp R) (map.keys m)
distinct-keys {R = R} m = IsDistinct-from_sorted R (map.keys m) (rising R (map.entries m) (map.entries_sorted m))

module _ {K : Type 0} {R : K → K → Ordering} (o : IsTotalOrder R) (exact : IsAntisymmetric R) where
  pub any-members : (s : FinSet R) (k : K) → list_any (eq_by_cmp R k) (members s) ≡ set.contains s k
  unfolding members
  any-members s k = sym (map.contains_key-keys (marked s) k) ∙ ap is_some (get-marked o exact s k) ∙ told (set.contains s k) where
    told : (b : Bool) → is_some (mark b) ≡ b
    told true = refl
    told false = refl

  pub distinct-members : (s : FinSet R) → IsDistinct (eq_by_cmp R) (members s)
  unfolding members
  distinct-members s = distinct-keys (marked s)
