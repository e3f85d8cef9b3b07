-- Which tuples are in the union over a map.
use Rattle.std.specs.Prelude.{◌≡◌, ◌&&◌, ◌||◌, true, false, cond, T, List, [], ◌∷◌, refl, None, Some}
use Rattle.std.specs.Prelude.{map as each}
use Rattle.std.proofs.Common.{sym, ◌∙◌, ap, subst}
use Rattle.std.proofs.lemmas.Cmp.{lists_total}
use Rattle.std.proofs.lemmas.List.Folds.{list_any-append}
use Rattle.std.specs.List.{list_any}
use Rattle.std.specs.Ordering.{eq_by_cmp, is_eq, ordering_then}
use Rattle.std.specs.declared.cmp.Ordering.{Ordering}
use Rattle.std.specs.declared.cmp.Ordering.TheVariants.{Less, Equal, Greater}
use Rattle.std.specs.Cmp.{IsTotalOrder}
use Rattle.std.specs.Cmp.Lexicographic.{slice_cmp}
use Rattle.std.specs.FinMap as map
use Rattle.std.specs.FinMap.{FinMap, IsAntisymmetric, find, is_sorted}
use Rattle.std.specs.FinMap.Entries.{below_all}
use Rattle.std.specs.FinSet as set
use Rattle.hypertrie_model.specs.Sets.{TupleSet, has}
use Rattle.hypertrie_model.specs.Unions.{listed, union_over, has_under}
use Rattle.hypertrie_model.specs.SetLaws.{same_sets, tied-is, split_left, split_right, or-false}
use Rattle.hypertrie_model.specs.MapLaws.{find-below}

is_eq-then : (r s : Ordering) → is_eq (ordering_then r s) ≡ (is_eq r && is_eq s)
is_eq-then Less s = refl
is_eq-then Equal s = refl
is_eq-then Greater s = refl

module _ {A : Type 0} (R : A → A → Ordering) where
  -- two tuples are one where heads and tails are
  pub tied-cons : (k x : A) (u t : List A) → eq_by_cmp (slice_cmp R) (k ∷ u) (x ∷ t) ≡ (eq_by_cmp R k x && eq_by_cmp (slice_cmp R) u t)
  tied-cons k x u t = is_eq-then (R k x) (slice_cmp R u t)

  pub any-under : (k x : A) (u : List A) (ts : List (List A)) → list_any (eq_by_cmp (slice_cmp R) (k ∷ u)) (each (λ t. x ∷ t) ts) ≡ (eq_by_cmp R k x && list_any (eq_by_cmp (slice_cmp R) u) ts)
  any-under k x u [] = elim (eq_by_cmp R k x) as (λ b. false ≡ (b && false)) [ true ↦ refl | false ↦ refl ]
  any-under k x u (t ∷ ts) =
      (λ i. tied-cons k x u t i || any-under k x u ts i)
      ∙ elim (eq_by_cmp R k x) as (λ b. ((b && eq_by_cmp (slice_cmp R) u t) || (b && list_any (eq_by_cmp (slice_cmp R) u) ts)) ≡ (b && (eq_by_cmp (slice_cmp R) u t || list_any (eq_by_cmp (slice_cmp R) u) ts))) [ true ↦ refl | false ↦ refl ]

  pub any-under_nil : (x : A) (ts : List (List A)) → list_any (eq_by_cmp (slice_cmp R) []) (each (λ t. x ∷ t) ts) ≡ false
  any-under_nil x [] = refl
  any-under_nil x (t ∷ ts) = any-under_nil x ts

module _ {A X : Type 0} {R : A → A → Ordering} (o : IsTotalOrder R) (exact : IsAntisymmetric R) where
  any-listed : (f : X → TupleSet R) (k : A) (u : List A) (es : List (A × X)) → T (is_sorted R es) → list_any (eq_by_cmp (slice_cmp R) (k ∷ u)) (listed f es) ≡ has_under f (find R k es) u
  any-listed f k u [] h = refl
  any-listed f k u (e ∷ es) h =
      list_any-append (eq_by_cmp (slice_cmp R) (k ∷ u)) (each (λ t. e.0 ∷ t) (set.items (f e.1))) (listed f es)
      ∙ (λ i. any-under R k e.0 u (set.items (f e.1)) i || any-listed f k u es (split_right _ _ h) i)
      ∙ ap (λ b. (eq_by_cmp R k e.0 && b) || has_under f (find R k es) u) (sym (set.contains-items (f e.1) u))
      ∙ elim (eq_by_cmp R k e.0) as (λ b. eq_by_cmp R k e.0 ≡ b → ((b && has (f e.1) u) || has_under f (find R k es) u) ≡ has_under f (cond b (Some e.1) (find R k es)) u) [
        | true ↦ λ is. ap (λ r. has (f e.1) u || has_under f r u) (tied_below is) ∙ or-false (has (f e.1) u)
        | false ↦ λ _. refl
      ] refl where
        tied_below : eq_by_cmp R k e.0 ≡ true → find R k es ≡ None
        tied_below is = find-below o exact k es (subst (λ z. T (below_all R z es)) (sym (tied-is exact k e.0 is)) (split_left _ _ h))

  pub has-union_over : (m : FinMap R X) (f : X → TupleSet R) (k : A) (u : List A) → has (union_over m f) (k ∷ u) ≡ has_under f (map.get m k) u
  unfolding union_over
  has-union_over m f k u =
      set.contains-from_list (lists_total o) (listed f (map.entries m)) (k ∷ u)
      ∙ any-listed f k u (map.entries m) (map.entries_sorted m)
      ∙ ap (λ r. has_under f r u) (sym (map.get-entries m k))

  any-listed_nil : (f : X → TupleSet R) (es : List (A × X)) → list_any (eq_by_cmp (slice_cmp R) []) (listed f es) ≡ false
  any-listed_nil f [] = refl
  any-listed_nil f (e ∷ es) =
      list_any-append (eq_by_cmp (slice_cmp R) []) (each (λ t. e.0 ∷ t) (set.items (f e.1))) (listed f es)
      ∙ (λ i. any-under_nil R e.0 (set.items (f e.1)) i || any-listed_nil f es i)

  pub has-union_over_nil : (m : FinMap R X) (f : X → TupleSet R) → has (union_over m f) [] ≡ false
  unfolding union_over
  has-union_over_nil m f = set.contains-from_list (lists_total o) (listed f (map.entries m)) [] ∙ any-listed_nil f (map.entries m)

  -- a set of non-empty tuples is this union where its tuples under each key are those of the value there
  pub is_union_over : (H : TupleSet R) (m : FinMap R X) (f : X → TupleSet R) → has H [] ≡ false → ((k : A) (u : List A) → has H (k ∷ u) ≡ has_under f (map.get m k) u) → H ≡ union_over m f
  is_union_over H m f nil under = same_sets o exact H (union_over m f) at where
    at : (t : List A) → has H t ≡ has (union_over m f) t
    at [] = nil ∙ sym (has-union_over_nil m f)
    at (k ∷ u) = under k u ∙ sym (has-union_over m f k u)
