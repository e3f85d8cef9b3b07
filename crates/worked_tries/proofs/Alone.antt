-- What a tuple that stands alone in its slices has copied.
use Rattle.std.specs.Prelude.{◌≡◌, ℕ, ◌*◌, ◌≤◌, not, Bool, true, false, cond, List, refl, None, Some}
use Rattle.std.proofs.Common.{sym, ◌∙◌, ap, subst, arith}
use Rattle.std.specs.Ordering.{nat_cmp, eq_by_cmp}
use Rattle.std.specs.Cmp.{nat_cmp_total as total}
use Rattle.std.specs.Cmp.Lexicographic.{slice_cmp}
use Rattle.std.specs.FinMap.{nat_cmp-IsAntisymmetric as exact}
use Rattle.std.specs.FinSet as set
use Rattle.std.specs.FinSet.{slice_cmp-IsAntisymmetric}
use native.Mathlib.Decide.{dec_lt}
use Rattle.hypertrie_model.specs.Changes.{IsChange}
use Rattle.hypertrie_model.specs.ChangeLaws.{slice-after, after-empty}
use Rattle.hypertrie_model.specs.Folds.{marked}
use Rattle.hypertrie_model.specs.FoldLaws.{sum_over-has, get-marked}
use Rattle.hypertrie_model.specs.IdSets.{IdSet}
use Rattle.hypertrie_model.specs.Members.{contains-kept}
use Rattle.hypertrie_model.specs.SetLaws.{tied-is, tied-itself, has-single, and_both}
use Rattle.hypertrie_model.specs.Sets.{has, empty, single}
use Rattle.hypertrie_model.specs.Shapes.{set_cmp}
use Rattle.hypertrie_model.specs.ShapeLaws.{sets_total}
use Rattle.hypertrie_model.specs.SliceLaws.{has-keys, slice-no_key}
use Rattle.hypertrie_model.specs.Slices.{is_at, keys, slice}
use Rattle.trie_change.specs.Extra.{touched, shared_edges, extra_at, extra}
use Rattle.worked_tries.specs.Alone.{IsAlone, IsApart}

pub single_is : (t q : List ℕ) → has (single nat_cmp t) q ≡ true → q ≡ t
single_is t q there = tied-is (slice_cmp-IsAntisymmetric exact) q t (sym (has-single total exact t q) ∙ there)

-- a tuple that isn't there is new
pub alone_new : (G : IdSet) (t : List ℕ) → has G t ≡ false → IsChange true G (single nat_cmp t)
alone_new G t none q there = ap (has G) (single_is t q there) ∙ none

module _ (G : IdSet) (t : List ℕ) where
  abbrev more : IdSet
  more = set.union G (single nat_cmp t)

  key_is : (i k : ℕ) → set.contains (keys nat_cmp (single nat_cmp t) i) k ≡ true → is_at nat_cmp i k t ≡ true
  key_is i k there = let key = has-keys total exact (single nat_cmp t) i k there in subst (λ q. is_at nat_cmp i k q ≡ true) (single_is t key.tuple key.there) key.stands

  -- a slice changes at an element of the tuple alone
  slice_same : (i k : ℕ) → set.contains (keys nat_cmp (single nat_cmp t) i) k ≡ false → slice nat_cmp more i k ≡ slice nat_cmp G i k
  slice_same i k none =
      slice-after total exact true G (single nat_cmp t) i k
      ∙ ap (set.union (slice nat_cmp G i k)) (slice-no_key total exact (single nat_cmp t) i k none)
      ∙ after-empty total exact true (slice nat_cmp G i k)

  touched_is : (i k : ℕ) → set.contains (touched G more i) k ≡ true → is_at nat_cmp i k t ≡ true
  touched_is i k there = by (set.contains (keys nat_cmp (single nat_cmp t) i) k) refl where
    differ : Bool
    differ = eq_by_cmp (set_cmp nat_cmp) (slice nat_cmp G i k) (slice nat_cmp more i k)

    apart : not differ ≡ true
    apart = (and_both (set.contains (keys nat_cmp G i) k) (not differ) (sym (contains-kept total exact (keys nat_cmp G i) (λ q. not (eq_by_cmp (set_cmp nat_cmp) (slice nat_cmp G i q) (slice nat_cmp more i q))) k) ∙ there)).1

    by : (b : Bool) → set.contains (keys nat_cmp (single nat_cmp t) i) k ≡ b → is_at nat_cmp i k t ≡ true
    by true is = key_is i k is
    by false is =
        let same : differ ≡ true = ap (eq_by_cmp (set_cmp nat_cmp) (slice nat_cmp G i k)) (slice_same i k is) ∙ tied-itself (sets_total total exact) (slice nat_cmp G i k) in
        let f : false ≡ true = sym (ap not same) ∙ apart in
        absurd (let n : ⊥ = cc in n)

  marked_is : (b : Bool) (u : Unit {0}) → cond b (Some tt) None ≡ Some u → b ≡ true
  marked_is true u is = refl
  marked_is false u is = absurd (let n : ⊥ = cc in n)

  none_at : IsAlone G t → (i : ℕ) → extra_at G more i ≤ 0
  none_at alone i = elim (dec_lt 0 (extra_at G more i)) as (λ _. extra_at G more i ≤ 0) [
    | yes p ↦
        let h = sum_over-has total exact (λ k _. shared_edges G more (slice nat_cmp G i k)) (marked (touched G more i)) p in
        let there = marked_is (set.contains (touched G more i) h.0) h.1 (sym (get-marked total exact (touched G more i) h.0) ∙ h.2) in
        absurd (omega (arith, h.3, alone i h.0 (touched_is i h.0 there)))
    | no p ↦ omega arith
  ]

  pub no_extra : IsAlone G t → extra G more ≤ 0
  no_extra alone = omega (arith, none_at alone 0, none_at alone 1, none_at alone 2)

  -- so it is where the elements are new at their positions
  pub apart_alone : IsApart G t → IsAlone G t
  apart_alone apart i k at = nothing (slice nat_cmp G i k) (slice-no_key total exact G i k (apart i k at)) where
    least : (b : Bool) (n : ℕ) → n ≡ 0 → cond b (2 * n) 0 ≡ 0
    least true n is = omega arith
    least false n is = refl

    nothing : (S : IdSet) → S ≡ empty nat_cmp → shared_edges G more S ≡ 0
    nothing S is = least _ (set.len S) (ap set.len is ∙ set.len-empty (slice_cmp nat_cmp))
