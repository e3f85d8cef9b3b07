-- Which tuples are in a slice, and which elements are keys.
use Rattle.std.specs.Prelude.{◌≡◌, ℕ, zero, suc, ◌<◌, ◌≤◌, ◌&&◌, ◌||◌, ◌≢◌, not, Bool, true, false, cond, List, [], ◌∷◌, length, map, refl, Option, None, Some}
use Rattle.std.proofs.Common.{sym, ◌∙◌, ap, arith}
use Rattle.std.proofs.lemmas.Bool.{false_from_ne_true}
use Rattle.std.proofs.lemmas.Cmp.{lists_total}
use Rattle.std.proofs.lemmas.List.Edits.{length-insert, length-remove}
use Rattle.std.specs.List.{list_any, filter, filter_map, cons_option, insert, remove}
use Rattle.std.specs.Ordering.{eq_by_cmp}
use Rattle.std.specs.declared.cmp.Ordering.{Ordering}
use Rattle.std.specs.Cmp.{IsTotalOrder}
use Rattle.std.specs.Cmp.Lexicographic.{slice_cmp}
use Rattle.std.specs.FinSet.{IsAntisymmetric, slice_cmp-IsAntisymmetric}
use Rattle.std.specs.FinSet as set
use native.Mathlib.Decide.{dec_le}
use Rattle.hypertrie_model.specs.Sets.{TupleSet, has, empty, HasDepth}
use Rattle.hypertrie_model.specs.Slices.{at, is_at, is_at_mask, without_mask, keys, slice, slice_at_mask}
use Rattle.hypertrie_model.specs.SetLaws.{same_sets, or_cases, or_right, and_both, same_test, tied-itself, tied-is}

-- a member of the list that passes the test
pub record Passes {K : Type 0} (R : K → K → Ordering) (p : K → Bool) (ks : List K) : Type 0 where
  pub member : K
  pub there : list_any (eq_by_cmp R member) ks ≡ true
  pub passes : p member ≡ true

module _ {K : Type 0} {R : K → K → Ordering} where
  pub any_passes : IsTotalOrder R → (p : K → Bool) (ks : List K) → list_any p ks ≡ true → Passes R p ks
  any_passes o p [] e = absurd (let t : ⊥ = cc in t)
  any_passes o p (k ∷ ks) e = or_cases (p k) (list_any p ks) e _
      (λ here. record { member = k; there = ap (λ b. b || list_any (eq_by_cmp R k) ks) (tied-itself o k); passes = here })
      (λ rest. let r = any_passes o p ks rest in record { member = r.member; there = or_right (eq_by_cmp R r.member k) (list_any (eq_by_cmp R r.member) ks) r.there; passes = r.passes })

  pub passes_any : IsAntisymmetric R → (p : K → Bool) (ks : List K) (k : K) → list_any (eq_by_cmp R k) ks ≡ true → p k ≡ true → list_any p ks ≡ true
  passes_any exact p [] k e q = e
  passes_any exact p (x ∷ ks) k e q = or_cases (eq_by_cmp R k x) (list_any (eq_by_cmp R k) ks) e _
      (λ here. ap (λ b. b || list_any p ks) (ap p (sym (tied-is exact k x here)) ∙ q))
      (λ rest. or_right (p x) (list_any p ks) (passes_any exact p ks k rest q))

pub any-map_filter : {X Y : Type 0} (f : X → Y) (p : X → Bool) (q : Y → Bool) (xs : List X) → list_any q (map f (filter p xs)) ≡ list_any (λ x. p x && q (f x)) xs
any-map_filter f p q [] = refl
any-map_filter f p q (x ∷ xs) =
    elim (p x) as (λ b. list_any q (map f (cond b (x ∷ filter p xs) (filter p xs))) ≡ ((b && q (f x)) || list_any (λ y. p y && q (f y)) xs)) [
      | true ↦ ap (λ b. q (f x) || b) (any-map_filter f p q xs)
      | false ↦ any-map_filter f p q xs
    ]

-- whether the test passes what stands there
abbrev passes_some : {A : Type 0} → (A → Bool) → Option A → Bool
passes_some p None = false
passes_some p (Some x) = p x

any-filter_map : {X Y : Type 0} (h : X → Option Y) (q : Y → Bool) (xs : List X) → list_any q (filter_map h xs) ≡ list_any (λ x. passes_some q (h x)) xs
any-filter_map h q [] = refl
any-filter_map h q (x ∷ xs) =
    elim (h x) as (λ y. list_any q (cons_option y (filter_map h xs)) ≡ (passes_some q y || list_any (λ z. passes_some q (h z)) xs)) [
      | None ↦ any-filter_map h q xs
      | Some y ↦ ap (λ b. q y || b) (any-filter_map h q xs)
    ]

pub remove-insert_at : {A : Type 0} (u : List A) (i : ℕ) (k : A) → i ≤ length u → remove (insert u i k) i ≡ u
remove-insert_at u zero k h = refl
remove-insert_at [] (suc i) k h = absurd (omega arith)
remove-insert_at (x ∷ u) (suc i) k h = ap (λ xs. x ∷ xs) (remove-insert_at u i k (omega arith))

module _ {A : Type 0} {R : A → A → Ordering} (o : IsTotalOrder R) (exact : IsAntisymmetric R) where
  abbrev same_tuple : List A → List A → Bool
  same_tuple u t = eq_by_cmp (slice_cmp R) u t

  pub insert-remove_at : (t : List A) (i : ℕ) (k : A) → is_at R i k t ≡ true → insert (remove t i) i k ≡ t
  insert-remove_at [] i k e = absurd (let t : ⊥ = cc in t)
  insert-remove_at (x ∷ t) zero k e = ap (λ y. y ∷ t) (tied-is exact k x e)
  insert-remove_at (x ∷ t) (suc i) k e = ap (λ xs. x ∷ xs) (insert-remove_at t i k e)

  pub at-insert_at : (u : List A) (i : ℕ) (k : A) → i ≤ length u → is_at R i k (insert u i k) ≡ true
  at-insert_at u zero k h = tied-itself o k
  at-insert_at [] (suc i) k h = absurd (omega arith)
  at-insert_at (x ∷ u) (suc i) k h = at-insert_at u i k (omega arith)

  long : (t : List A) (i : ℕ) (k : A) → is_at R i k t ≡ true → i < length t
  long [] i k e = absurd (let t : ⊥ = cc in t)
  long (x ∷ t) zero k e = omega arith
  long (x ∷ t) (suc i) k e = let rest = long t i k e in omega arith

  -- u is in the slice exactly where u with k put in at i is in the set
  pub has-slice : (H : TupleSet R) (i : ℕ) (k : A) (u : List A) → i ≤ length u → has (slice R H i k) u ≡ has H (insert u i k)
  unfolding slice
  has-slice H i k u le =
      set.contains-from_list (lists_total o) (map (λ t. remove t i) (filter (is_at R i k) (set.items H))) u
      ∙ any-map_filter (λ t. remove t i) (is_at R i k) (same_tuple u) (set.items H)
      ∙ same_test _ _
      (λ e. let p = any_passes (lists_total o) (λ t. is_at R i k t && same_tuple u (remove t i)) (set.items H) e in
      let two = and_both (is_at R i k p.member) (same_tuple u (remove p.member i)) p.passes in
      let is : insert u i k ≡ p.member = ap (λ v. insert v i k) (tied-is (slice_cmp-IsAntisymmetric exact) u (remove p.member i) two.1) ∙ insert-remove_at p.member i k two.0 in
      ap (has H) is ∙ set.contains-items H p.member ∙ p.there)
      (λ e. passes_any (slice_cmp-IsAntisymmetric exact) (λ t. is_at R i k t && same_tuple u (remove t i)) (set.items H) (insert u i k) (sym (set.contains-items H (insert u i k)) ∙ e)
      (λ j. at-insert_at u i k le j && (ap (same_tuple u) (remove-insert_at u i k le) ∙ tied-itself (lists_total o) u) j))

  -- a tuple too short for the position is in no slice
  pub has-slice_short : (H : TupleSet R) (i : ℕ) (k : A) (u : List A) → length u < i → has (slice R H i k) u ≡ false
  unfolding slice
  has-slice_short H i k u lt =
      set.contains-from_list (lists_total o) (map (λ t. remove t i) (filter (is_at R i k) (set.items H))) u
      ∙ any-map_filter (λ t. remove t i) (is_at R i k) (same_tuple u) (set.items H)
      ∙ false_from_ne_true _ (λ e.
      let p = any_passes (lists_total o) (λ t. is_at R i k t && same_tuple u (remove t i)) (set.items H) e in
      let two = and_both (is_at R i k p.member) (same_tuple u (remove p.member i)) p.passes in
      let within = long p.member i k two.0 in
      let n = length-remove p.member i within in
      let same = ap length (tied-is (slice_cmp-IsAntisymmetric exact) u (remove p.member i) two.1) in
      omega arith)

  pub by_length : (P : Type 0) (i : ℕ) (u : List A) → (i ≤ length u → P) → (length u < i → P) → P
  by_length P i u within short = elim (dec_le i (length u)) as (λ _. P) [ yes le ↦ within le | no gt ↦ short (omega arith) ]

  -- every slice of a set of tuples has tuples of one place less
  pub slice-depth : (H : TupleSet R) (n i : ℕ) (k : A) → HasDepth (suc n) H → HasDepth n (slice R H i k)
  slice-depth H n i k deep u e = by_length _ i u
      (λ le. let long = length-insert u i k le in let n_places = deep (insert u i k) (sym (has-slice H i k u le) ∙ e) in omega arith)
      (λ gt. let t : false ≡ true = sym (has-slice_short H i k u gt) ∙ e in cc)

  -- the slice of a union is the union of the slices
  pub slice-union : (H K : TupleSet R) (i : ℕ) (k : A) → slice R (set.union H K) i k ≡ set.union (slice R H i k) (slice R K i k)
  slice-union H K i k = same_sets o exact _ _ (λ u. by_length _ i u
      (λ le. has-slice (set.union H K) i k u le ∙ set.contains-union (lists_total o) H K (insert u i k)
      ∙ (λ j. sym (has-slice H i k u le) j || sym (has-slice K i k u le) j)
      ∙ sym (set.contains-union (lists_total o) (slice R H i k) (slice R K i k) u))
      (λ gt. has-slice_short (set.union H K) i k u gt
      ∙ (λ j. sym (has-slice_short H i k u gt) j || sym (has-slice_short K i k u gt) j)
      ∙ sym (set.contains-union (lists_total o) (slice R H i k) (slice R K i k) u)))

  -- the slice of a difference is the difference of the slices
  pub slice-difference : (H K : TupleSet R) (i : ℕ) (k : A) → slice R (set.difference H K) i k ≡ set.difference (slice R H i k) (slice R K i k)
  slice-difference H K i k = same_sets o exact _ _ (λ u. by_length _ i u
      (λ le. has-slice (set.difference H K) i k u le ∙ set.contains-difference (lists_total o) H K (insert u i k)
      ∙ (λ j. sym (has-slice H i k u le) j && not (sym (has-slice K i k u le) j))
      ∙ sym (set.contains-difference (lists_total o) (slice R H i k) (slice R K i k) u))
      (λ gt. has-slice_short (set.difference H K) i k u gt
      ∙ (λ j. sym (has-slice_short H i k u gt) j && not (sym (has-slice_short K i k u gt) j))
      ∙ sym (set.contains-difference (lists_total o) (slice R H i k) (slice R K i k) u)))

  -- u is in the slice at a mask exactly where it is left of a tuple of the set that has k at the mask
  pub record IsLeft (H : TupleSet R) (m : ℕ) (k : A) (u : List A) : Type 0 where
    pub tuple : List A
    pub there : has H tuple ≡ true
    pub fixed : is_at_mask R m k tuple ≡ true
    pub left : without_mask m tuple ≡ u

  pub has-slice_at_mask : (H : TupleSet R) (m : ℕ) (k : A) (u : List A) → has (slice_at_mask R H m k) u ≡ true → IsLeft H m k u
  unfolding slice_at_mask
  has-slice_at_mask H m k u e =
      let test : List A → Bool = λ t. is_at_mask R m k t && same_tuple u (without_mask m t) in
      let listed = sym (set.contains-from_list (lists_total o) (map (without_mask m) (filter (is_at_mask R m k) (set.items H))) u ∙ any-map_filter (without_mask m) (is_at_mask R m k) (same_tuple u) (set.items H)) ∙ e in
      let p = any_passes (lists_total o) test (set.items H) listed in
      let two = and_both (is_at_mask R m k p.member) (same_tuple u (without_mask m p.member)) p.passes in
      record { tuple = p.member; there = set.contains-items H p.member ∙ p.there; fixed = two.0; left = sym (tied-is (slice_cmp-IsAntisymmetric exact) u (without_mask m p.member) two.1) }

  pub slice_at_mask-has : (H : TupleSet R) (m : ℕ) (k : A) (t : List A) → has H t ≡ true → is_at_mask R m k t ≡ true → has (slice_at_mask R H m k) (without_mask m t) ≡ true
  unfolding slice_at_mask
  slice_at_mask-has H m k t there fixed =
      set.contains-from_list (lists_total o) (map (without_mask m) (filter (is_at_mask R m k) (set.items H))) (without_mask m t)
      ∙ any-map_filter (without_mask m) (is_at_mask R m k) (same_tuple (without_mask m t)) (set.items H)
      ∙ passes_any (slice_cmp-IsAntisymmetric exact) (λ s. is_at_mask R m k s && same_tuple (without_mask m t) (without_mask m s)) (set.items H) t (sym (set.contains-items H t) ∙ there)
      (λ j. fixed j && tied-itself (lists_total o) (without_mask m t) j)

  -- k is a key exactly where some tuple has it at the position
  pub record IsKey (H : TupleSet R) (i : ℕ) (k : A) : Type 0 where
    pub tuple : List A
    pub there : has H tuple ≡ true
    pub stands : is_at R i k tuple ≡ true

  at-is_at : (i : ℕ) (k : A) (t : List A) → passes_some (eq_by_cmp R k) (at i t) ≡ is_at R i k t
  at-is_at i k [] = refl
  at-is_at zero k (x ∷ t) = refl
  at-is_at (suc i) k (x ∷ t) = at-is_at i k t

  any_same : {X : Type 0} (p q : X → Bool) (xs : List X) → ((x : X) → p x ≡ q x) → list_any p xs ≡ list_any q xs
  any_same p q [] h = refl
  any_same p q (x ∷ xs) h = λ j. h x j || any_same p q xs h j

  listed-keys : (H : TupleSet R) (i : ℕ) (k : A) → set.contains (keys R H i) k ≡ list_any (is_at R i k) (set.items H)
  unfolding keys
  listed-keys H i k =
      set.contains-from_list o (filter_map (at i) (set.items H)) k
      ∙ any-filter_map (at i) (eq_by_cmp R k) (set.items H)
      ∙ any_same (λ t. passes_some (eq_by_cmp R k) (at i t)) (is_at R i k) (set.items H) (at-is_at i k)

  pub has-keys : (H : TupleSet R) (i : ℕ) (k : A) → set.contains (keys R H i) k ≡ true → IsKey H i k
  has-keys H i k e =
      let p = any_passes (lists_total o) (is_at R i k) (set.items H) (sym (listed-keys H i k) ∙ e) in
      record { tuple = p.member; there = set.contains-items H p.member ∙ p.there; stands = p.passes }

  pub keys-has : (H : TupleSet R) (i : ℕ) (k : A) (t : List A) → has H t ≡ true → is_at R i k t ≡ true → set.contains (keys R H i) k ≡ true
  keys-has H i k t there stands = listed-keys H i k ∙ passes_any (slice_cmp-IsAntisymmetric exact) (is_at R i k) (set.items H) t (sym (set.contains-items H t) ∙ there) stands

  -- k is a key exactly where the slice at it isn't empty
  pub key-slice : (H : TupleSet R) (i : ℕ) (k : A) → set.contains (keys R H i) k ≡ true → slice R H i k ≢ empty R
  key-slice H i k e none =
      let key = has-keys H i k e in
      let within = long key.tuple i k key.stands in
      let n = length-remove key.tuple i within in
      let there : has (slice R H i k) (remove key.tuple i) ≡ true = has-slice H i k (remove key.tuple i) (omega arith) ∙ ap (has H) (insert-remove_at key.tuple i k key.stands) ∙ key.there in
      let t : false ≡ true = sym (set.contains-empty (slice_cmp R) (remove key.tuple i)) ∙ ap (λ S. has S (remove key.tuple i)) (sym none) ∙ there in
      cc

  pub slice-no_key : (H : TupleSet R) (i : ℕ) (k : A) → set.contains (keys R H i) k ≡ false → slice R H i k ≡ empty R
  slice-no_key H i k e = same_sets o exact _ _ (λ u. by_length _ i u
      (λ le. has-slice H i k u le
      ∙ false_from_ne_true _ (λ there. let t : false ≡ true = sym e ∙ keys-has H i k (insert u i k) there (at-insert_at u i k le) in cc)
      ∙ sym (set.contains-empty (slice_cmp R) u))
      (λ gt. has-slice_short H i k u gt ∙ sym (set.contains-empty (slice_cmp R) u)))
