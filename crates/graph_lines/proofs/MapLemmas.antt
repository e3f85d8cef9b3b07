-- A walk over the keys of a finite map of sets.
use Rattle.std.specs.Prelude.{◌≡◌, ℕ, ◌+◌, ◌<◌, ◌≤◌, Bool, true, List, ◌∷◌, None, Some}
use Rattle.std.proofs.Common.{sym, ◌∙◌, ap}
use Rattle.std.proofs.lemmas.Cmp.{nat_cmp_total as total}
use Rattle.std.specs.FinMap as map
use Rattle.std.specs.FinMap.{FinMap, nat_cmp-IsAntisymmetric as exact}
use Rattle.std.specs.List.{list_all}
use Rattle.std.specs.Ordering.{nat_cmp}
use Rattle.hypertrie_model.specs.IdSets.{IdSet}
use Rattle.hypertrie_model.specs.Sets.{has, empty}
use Rattle.hypertrie_model.specs.Slices.{slice}
use Rattle.hypertrie_model.specs.Unions.{union_over, has_under}
use Rattle.hypertrie_model.specs.UnionLaws.{has-union_over, has-union_over_nil}
use Rattle.hypertrie_model.specs.UnionSizes.{set_under, slice-union_over}
use Rattle.tuple_image.specs.TupleImages.{IsOver}
use Rattle.rdf_model.specs.Terms.{Text}
use Rattle.graph_lines.specs.Walks.{AddsTexts}
use Rattle.graph_lines.proofs.WalkLemmas.{Walked, walked_all, walked_next}

module _ {X : Type 0} (m : FinMap nat_cmp X) (f : X → IdSet) where
  under_none : (k : ℕ) → map.get m k ≡ None → slice nat_cmp (union_over m f) 0 k ≡ empty nat_cmp
  under_none k none = slice-union_over total exact m f k ∙ ap (set_under nat_cmp f) none

  -- all texts are there where no key is left
  pub map_done : (text : List ℕ → Text) (old now : List Text) (from : ℕ) → ((k : ℕ) → from ≤ k → map.get m k ≡ None) → Walked text (union_over m f) from old now → AddsTexts text (union_over m f) old now
  map_done text old now from none = walked_all text (union_over m f) (has-union_over_nil total exact m f) from (λ k le. under_none k (none k le)) old now

  -- one key more
  pub map_next : (text under : List ℕ → Text) (k : ℕ) (x : X) → map.get m k ≡ Some x → ((t : List ℕ) → under t ≡ text (k ∷ t)) → (from : ℕ) → from ≤ k → ((q : ℕ) → from ≤ q → q < k → map.get m q ≡ None)
      → (old mid now : List Text) → Walked text (union_over m f) from old mid → AddsTexts under (f x) mid now → Walked text (union_over m f) (k + 1) old now
  map_next text under k x at same from high least old mid now =
      walked_next text under k same (union_over m f) (has-union_over_nil total exact m f) from high (λ q le lt. under_none q (least q le lt)) (f x) (sym (slice-union_over total exact m f k ∙ ap (set_under nat_cmp f) at)) old mid now

  -- the keys before tuples that are there are known, and so are the tuples' elements
  pub under_known : (known : ℕ → Bool) → IsOver known (union_over m f) → (k : ℕ) (x : X) → map.get m k ≡ Some x → (u : List ℕ) → has (f x) u ≡ true → list_all known (k ∷ u) ≡ true
  under_known known over k x at u e = over (k ∷ u) (has-union_over total exact m f k u ∙ ap (λ o. has_under f o u) at ∙ e)
