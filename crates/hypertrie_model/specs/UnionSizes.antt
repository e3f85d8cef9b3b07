-- Slices, sizes and exclusive ors of a union over a map.
use Rattle.std.specs.Prelude.{◌≡◌, ℕ, ◌+◌, ◌&&◌, ◌||◌, Bool, true, false, cond, List, [], ◌∷◌, refl, Option, None, Some, bit_xor}
use Rattle.std.specs.Prelude.{map as each}
use Rattle.std.proofs.Common.{sym, ◌∙◌, ap, arith}
use Rattle.std.proofs.lemmas.Cmp.{lists_total}
use Rattle.std.specs.Ordering.{eq_by_cmp}
use Rattle.std.specs.declared.cmp.Ordering.{Ordering}
use Rattle.std.specs.Cmp.{IsTotalOrder}
use Rattle.std.specs.Cmp.Lexicographic.{slice_cmp}
use Rattle.std.specs.FinMap as map
use Rattle.std.specs.FinMap.{FinMap, IsAntisymmetric}
use Rattle.std.specs.FinSet as set
use Rattle.std.specs.FinSet.{slice_cmp-IsAntisymmetric}
use Rattle.hypertrie_model.specs.Sets.{TupleSet, has, empty}
use Rattle.hypertrie_model.specs.SetLaws.{same_sets, tied-itself, tied-is, and_both}
use Rattle.hypertrie_model.specs.SetInduction.{set_ind, Disjoint, len-union_disjoint}
use Rattle.hypertrie_model.specs.Slices.{slice}
use Rattle.hypertrie_model.specs.SliceLaws.{has-slice}
use Rattle.hypertrie_model.specs.Folds.{sum_over, xor_over}
use Rattle.hypertrie_model.specs.FoldLaws.{sum_over-empty, sum_over-insert, xor_over-empty, xor_over-insert}
use Rattle.hypertrie_model.specs.MapLaws.{by_key, map_ind}
use Rattle.hypertrie_model.specs.Unions.{union_over, has_under}
use Rattle.hypertrie_model.specs.UnionLaws.{has-union_over, has-union_over_nil, tied-cons, any-under, any-under_nil}

-- the set of the value that is there
abbrev pub set_under : {A X : Type 0} (R : A → A → Ordering) → (X → TupleSet R) → Option X → TupleSet R
set_under R f None = empty R
set_under R f (Some v) = f v

-- k before each tuple
abbrev pub prefixed : {A : Type 0} (R : A → A → Ordering) → A → TupleSet R → TupleSet R
prefixed R k S = set.from_list (each (λ t. k ∷ t) (set.items S))

module _ {A : Type 0} {R : A → A → Ordering} (o : IsTotalOrder R) (exact : IsAntisymmetric R) where
  -- the slice at the first position is what stands under the key
  pub slice-union_over : {X : Type 0} (m : FinMap R X) (f : X → TupleSet R) (k : A) → slice R (union_over m f) 0 k ≡ set_under R f (map.get m k)
  slice-union_over m f k = same_sets o exact _ _ (λ u.
      has-slice o exact (union_over m f) 0 k u (omega arith)
      ∙ has-union_over o exact m f k u
      ∙ elim (map.get m k) as (λ r. has_under f r u ≡ has (set_under R f r) u) [ None ↦ sym (set.contains-empty (slice_cmp R) u) | Some v ↦ refl ])

  pub has-prefixed : (k : A) (S : TupleSet R) (x : A) (u : List A) → has (prefixed R k S) (x ∷ u) ≡ (eq_by_cmp R x k && has S u)
  has-prefixed k S x u =
      set.contains-from_list (lists_total o) (each (λ t. k ∷ t) (set.items S)) (x ∷ u)
      ∙ any-under R x k u (set.items S)
      ∙ ap (λ b. eq_by_cmp R x k && b) (sym (set.contains-items S u))

  pub has-prefixed_nil : (k : A) (S : TupleSet R) → has (prefixed R k S) [] ≡ false
  has-prefixed_nil k S = set.contains-from_list (lists_total o) (each (λ t. k ∷ t) (set.items S)) [] ∙ any-under_nil R k (set.items S)

  prefixed-insert : (k : A) (S : TupleSet R) (t : List A) → prefixed R k (set.insert S t) ≡ set.insert (prefixed R k S) (k ∷ t)
  prefixed-insert k S t = same_sets o exact _ _ at where
    spread : (a b c : Bool) → (a && (b || c)) ≡ ((a && b) || (a && c))
    spread true b c = refl
    spread false b c = refl

    at : (q : List A) → has (prefixed R k (set.insert S t)) q ≡ has (set.insert (prefixed R k S) (k ∷ t)) q
    at [] = has-prefixed_nil k (set.insert S t) ∙ sym (set.contains-insert (lists_total o) (prefixed R k S) (k ∷ t) [] ∙ has-prefixed_nil k S)
    at (x ∷ u) =
        has-prefixed k (set.insert S t) x u
        ∙ ap (λ b. eq_by_cmp R x k && b) (set.contains-insert (lists_total o) S t u)
        ∙ spread (eq_by_cmp R x k) (eq_by_cmp (slice_cmp R) u t) (has S u)
        ∙ (λ i. sym (tied-cons R x k u t) i || sym (has-prefixed k S x u) i)
        ∙ sym (set.contains-insert (lists_total o) (prefixed R k S) (k ∷ t) (x ∷ u))

  prefixed-empty : (k : A) → prefixed R k set.empty ≡ set.empty
  prefixed-empty k = same_sets o exact _ _ at where
    at : (q : List A) → has (prefixed R k set.empty) q ≡ has (empty R) q
    at [] = has-prefixed_nil k set.empty ∙ sym (set.contains-empty (slice_cmp R) [])
    at (x ∷ u) = has-prefixed k set.empty x u ∙ ap (λ b. eq_by_cmp R x k && b) (set.contains-empty (slice_cmp R) u) ∙ none (eq_by_cmp R x k) ∙ sym (set.contains-empty (slice_cmp R) (x ∷ u)) where
      none : (b : Bool) → (b && false) ≡ false
      none true = refl
      none false = refl

  not_prefixed : (k : A) (S : TupleSet R) (t : List A) → has S t ≡ false → has (prefixed R k S) (k ∷ t) ≡ false
  not_prefixed k S t new = has-prefixed k S k t ∙ ap (λ b. b && has S t) (tied-itself o k) ∙ new

  pub len-prefixed : (k : A) (S : TupleSet R) → set.len (prefixed R k S) ≡ set.len S
  len-prefixed k = set_ind (lists_total o) (slice_cmp-IsAntisymmetric exact) (λ S. set.len (prefixed R k S) ≡ set.len S)
      (ap set.len (prefixed-empty k))
      (λ S t new ind.
      ap set.len (prefixed-insert k S t)
      ∙ set.len-insert (lists_total o) (prefixed R k S) (k ∷ t)
      ∙ ap (λ b. cond b (set.len (prefixed R k S)) (set.len (prefixed R k S) + 1)) (not_prefixed k S t new)
      ∙ ap (λ n. n + 1) ind
      ∙ sym (set.len-insert (lists_total o) S t ∙ ap (λ b. cond b (set.len S) (set.len S + 1)) new))

  pub xor_over-prefixed : (k : A) (g : List A → ℕ) (S : TupleSet R) → xor_over (prefixed R k S) g ≡ xor_over S (λ t. g (k ∷ t))
  xor_over-prefixed k g = set_ind (lists_total o) (slice_cmp-IsAntisymmetric exact) (λ S. xor_over (prefixed R k S) g ≡ xor_over S (λ t. g (k ∷ t)))
      (ap (λ S. xor_over S g) (prefixed-empty k) ∙ xor_over-empty (lists_total o) (slice_cmp-IsAntisymmetric exact) g ∙ sym (xor_over-empty (lists_total o) (slice_cmp-IsAntisymmetric exact) (λ t. g (k ∷ t))))
      (λ S t new ind.
      ap (λ T. xor_over T g) (prefixed-insert k S t)
      ∙ xor_over-insert (lists_total o) (slice_cmp-IsAntisymmetric exact) (prefixed R k S) g (k ∷ t) (not_prefixed k S t new)
      ∙ ap (bit_xor (g (k ∷ t))) ind
      ∙ sym (xor_over-insert (lists_total o) (slice_cmp-IsAntisymmetric exact) S (λ u. g (k ∷ u)) t new))

  -- one entry more
  module _ {X : Type 0} (m : FinMap R X) (f : X → TupleSet R) (k : A) (v : X) (new : map.get m k ≡ None) where
    pub union_over-insert : union_over (map.insert m k v) f ≡ set.union (union_over m f) (prefixed R k (f v))
    union_over-insert = same_sets o exact _ _ at where
      either : (x : A) (u : List A) → has_under f (cond (eq_by_cmp R x k) (Some v) (map.get m x)) u ≡ (has_under f (map.get m x) u || (eq_by_cmp R x k && has (f v) u))
      either x u = by_key o exact (λ b. has_under f (cond b (Some v) (map.get m x)) u ≡ (has_under f (map.get m x) u || (b && has (f v) u))) x k
          (λ is. sym (ap (λ r. has_under f r u || has (f v) u) (ap (map.get m) is ∙ new)))
          (λ ne. sym (or-false (has_under f (map.get m x) u))) where
            or-false : (b : Bool) → (b || false) ≡ b
            or-false true = refl
            or-false false = refl

      at : (q : List A) → has (union_over (map.insert m k v) f) q ≡ has (set.union (union_over m f) (prefixed R k (f v))) q
      at [] =
          has-union_over_nil o exact (map.insert m k v) f
          ∙ sym (set.contains-union (lists_total o) (union_over m f) (prefixed R k (f v)) [] ∙ (λ i. has-union_over_nil o exact m f i || has-prefixed_nil k (f v) i))
      at (x ∷ u) =
          has-union_over o exact (map.insert m k v) f x u
          ∙ ap (λ r. has_under f r u) (map.get-insert o m k v x)
          ∙ either x u
          ∙ (λ i. sym (has-union_over o exact m f x u) i || sym (has-prefixed k (f v) x u) i)
          ∙ sym (set.contains-union (lists_total o) (union_over m f) (prefixed R k (f v)) (x ∷ u))

    apart : Disjoint (lists_total o) (slice_cmp-IsAntisymmetric exact) (union_over m f) (prefixed R k (f v))
    apart [] there = has-union_over_nil o exact m f
    apart (x ∷ u) there =
        let is = tied-is exact x k (and_both (eq_by_cmp R x k) (has (f v) u) (sym (has-prefixed k (f v) x u) ∙ there)).0 in
        has-union_over o exact m f x u ∙ ap (λ r. has_under f r u) (ap (map.get m) is ∙ new)

    pub len-union_over_insert : set.len (union_over (map.insert m k v) f) ≡ set.len (union_over m f) + set.len (f v)
    len-union_over_insert =
        ap set.len union_over-insert
        ∙ len-union_disjoint (lists_total o) (slice_cmp-IsAntisymmetric exact) (union_over m f) (prefixed R k (f v)) apart
        ∙ ap (λ n. set.len (union_over m f) + n) (len-prefixed k (f v))

  pub union_over-empty : {X : Type 0} (f : X → TupleSet R) → union_over (map.empty {R = R}) f ≡ set.empty
  union_over-empty f = same_sets o exact _ _ at where
    at : (q : List A) → has (union_over (map.empty {R = R}) f) q ≡ has (empty R) q
    at [] = has-union_over_nil o exact map.empty f ∙ sym (set.contains-empty (slice_cmp R) [])
    at (x ∷ u) = has-union_over o exact map.empty f x u ∙ ap (λ r. has_under f r u) (map.get-empty R x) ∙ sym (set.contains-empty (slice_cmp R) (x ∷ u))

  -- as many tuples as the sets of all entries have
  pub len-union_over : {X : Type 0} (f : X → TupleSet R) (m : FinMap R X) → set.len (union_over m f) ≡ sum_over m (λ _ v. set.len (f v))
  len-union_over f = map_ind o exact (λ m. set.len (union_over m f) ≡ sum_over m (λ _ v. set.len (f v)))
      (ap set.len (union_over-empty f) ∙ set.len-empty (slice_cmp R) ∙ sym (sum_over-empty o exact (λ _ v. set.len (f v))))
      (λ m k v new ind. omega (arith, len-union_over_insert m f k v new, sum_over-insert o exact m (λ _ w. set.len (f w)) k v new, ind))
