-- Runs of a rising list of tuples: the tuples with one key at the front, which stand together. A run without that key is the slice at the key.
use Rattle.std.specs.Prelude.{◌≡◌, suc, ◌-◌, ◌<◌, ◌&&◌, ◌||◌, ◌≢◌, Bool, true, false, List, [], ◌∷◌, ◌++◌, length, map, refl}
use Rattle.std.proofs.Common.{sym, ◌∙◌, ap, subst, arith, append_assoc, length-append}
use Rattle.std.proofs.lemmas.Bool.{false_from_ne_true}
use Rattle.std.proofs.lemmas.Cmp.{lists_total, tied_itself}
use Rattle.std.proofs.lemmas.List.{get_or-append_right, get_or_append_left}
use Rattle.std.proofs.lemmas.List.Elements.{All-from_recursion, recursion_from_All, All-weaker, All-head}
use Rattle.std.proofs.lemmas.List.Folds.{list_any_none}
use Rattle.std.proofs.lemmas.Map.Keys.{sorted_head, sorted_tail}
use Rattle.std.specs.List.{All, AllByRecursion, list_any, remove, slice_index_or}
use Rattle.std.specs.List.Sorted.{IsStrictlySortedBy}
use Rattle.std.specs.Ordering.{eq_by_cmp, is_eq, ordering_then, ordering_reverse}
use Rattle.std.specs.declared.cmp.Ordering.{Ordering}
use Rattle.std.specs.declared.cmp.Ordering.TheVariants.{Less, Equal, Greater}
use Rattle.std.specs.Cmp.{IsTotalOrder}
use Rattle.std.specs.Cmp.Lexicographic.{slice_cmp}
use Rattle.std.specs.FinSet.{IsAntisymmetric, slice_cmp-IsAntisymmetric}
use Rattle.std.specs.FinSet as set
use Rattle.hypertrie_model.specs.Sets.{TupleSet, has, empty}
use Rattle.hypertrie_model.specs.Slices.{is_at, slice}
use Rattle.hypertrie_model.specs.SetLaws.{same_sets, tied-is}
use Rattle.hypertrie_model.specs.SliceLaws.{has-slice, slice-union}
use Rattle.hypertrie_model.specs.SetInduction.{union_empty}
use Rattle.hypertrie_model.specs.UnionLaws.{tied-cons}
use Rattle.hypertrie_model.specs.Listings.{set_of, has-set_of, set_of-append, sorted_first, sorted_last, All-below_middle}

module _ {A : Type 0} (R : A → A → Ordering) where
  -- the tuple stands before each one with k at the front: its own front is below k, if it has one
  abbrev pub IsBefore : A → List A → Type 0
  IsBefore k [] = Unit {0}
  IsBefore k (x ∷ u) = R x k ≡ Less

  -- the tuple stands after each one with k at the front: its own front is above k
  abbrev pub IsAfter : A → List A → Type 0
  IsAfter k [] = ⊥
  IsAfter k (x ∷ u) = R k x ≡ Less

  -- in a rising list, the run of the tuples with k at the front: neither the last tuple before it has k there, nor the first after it
  pub record IsRun (k : A) (done run rest : List (List A)) : Type 0 where
    pub sorted : IsStrictlySortedBy (slice_cmp R) (done ++ (run ++ rest))
    pub some : 0 < length run
    pub keyed : All (λ t. is_at R 0 k t ≡ true) run
    pub begins : (d : List A) → 0 < length done → is_at R 0 k (slice_index_or done (length done - 1) d) ≡ false
    pub ends : (d : List A) → 0 < length rest → is_at R 0 k (slice_index_or rest 0 d) ≡ false

-- the tuples, each without what stands at its front
abbrev pub without_front : {A : Type 0} → List (List A) → List (List A)
without_front ts = map (λ t. remove t 0) ts

module _ {A : Type 0} {R : A → A → Ordering} (o : IsTotalOrder R) (exact : IsAntisymmetric R) where
  abbrev same_tuple : List A → List A → Bool
  same_tuple u t = eq_by_cmp (slice_cmp R) u t

  -- ---- slices at the front of a list

  pub slice_front_append : (xs ys : List (List A)) (k : A) → slice R (set_of R (xs ++ ys)) 0 k ≡ set.union (slice R (set_of R xs) 0 k) (slice R (set_of R ys) 0 k)
  slice_front_append xs ys k = ap (λ S. slice R S 0 k) (set_of-append o exact xs ys) ∙ slice-union o exact (set_of R xs) (set_of R ys) 0 k

  not_under : (k : A) (u t : List A) → is_at R 0 k t ≡ false → same_tuple (k ∷ u) t ≡ false
  not_under k u [] e = refl
  not_under k u (x ∷ t) e = tied-cons R k x u t ∙ ap (λ b. b && same_tuple u t) e

  -- where no tuple has k at the front
  pub front_slice_none : (ts : List (List A)) (k : A) → All (λ t. is_at R 0 k t ≡ false) ts → slice R (set_of R ts) 0 k ≡ empty R
  front_slice_none ts k none = same_sets o exact _ _ (λ u.
      has-slice o exact (set_of R ts) 0 k u (omega arith)
      ∙ has-set_of o exact ts (k ∷ u)
      ∙ list_any_none (same_tuple (k ∷ u)) ts (All-weaker (λ t. is_at R 0 k t ≡ false) (λ t. same_tuple (k ∷ u) t ≡ false) (not_under k u) ts none)
      ∙ sym (set.contains-empty (slice_cmp R) u))

  under : (k : A) (u t : List A) → is_at R 0 k t ≡ true → same_tuple (k ∷ u) t ≡ same_tuple u (remove t 0)
  under k u [] e = absurd (let f : ⊥ = cc in f)
  under k u (x ∷ t) e = tied-cons R k x u t ∙ ap (λ b. b && same_tuple u t) e

  any-without_front : (k : A) (u : List A) (ts : List (List A)) → AllByRecursion (λ t. is_at R 0 k t ≡ true) ts → list_any (same_tuple (k ∷ u)) ts ≡ list_any (same_tuple u) (without_front ts)
  any-without_front k u [] all = refl
  any-without_front k u (t ∷ ts) all = λ j. under k u t all.0 j || any-without_front k u ts all.1 j

  -- where each tuple has k at the front
  pub front_slice_all : (ts : List (List A)) (k : A) → All (λ t. is_at R 0 k t ≡ true) ts → slice R (set_of R ts) 0 k ≡ set_of R (without_front ts)
  front_slice_all ts k all = same_sets o exact _ _ (λ u.
      has-slice o exact (set_of R ts) 0 k u (omega arith)
      ∙ has-set_of o exact ts (k ∷ u)
      ∙ any-without_front k u ts (recursion_from_All (λ t. is_at R 0 k t ≡ true) ts all)
      ∙ sym (has-set_of o exact (without_front ts) u))

  -- ---- before and after a run

  flipped : (r : Ordering) → r ≡ Less → is_eq (ordering_reverse r) ≡ false
  flipped Less e = refl
  flipped Equal e = absurd (let f : ⊥ = cc in f)
  flipped Greater e = refl

  pub not_at_before : (k : A) (t : List A) → IsBefore R k t → is_at R 0 k t ≡ false
  not_at_before k [] lt = refl
  not_at_before k (x ∷ t) lt = ap is_eq (o.antisymm k x) ∙ flipped (R x k) lt

  pub not_at_after : (k : A) (t : List A) → IsAfter R k t → is_at R 0 k t ≡ false
  not_at_after k [] lt = absurd lt
  not_at_after k (x ∷ t) lt = ap is_eq lt

  first_less : (x y : A) (r : Ordering) → ordering_then (R x y) r ≡ Less → (P : Type 0) → (R x y ≡ Less → P) → (R x y ≡ Equal → P) → P
  first_less x y r lt P below tied =
      elim (R x y) as (λ q. R x y ≡ q → ordering_then q r ≡ Less → P) [
        | Less ↦ λ e _. below e
        | Equal ↦ λ e _. tied e
        | Greater ↦ λ e n. absurd (let f : ⊥ = cc in f)
      ] refl lt

  -- a tuple below one with k at the front, which has another key there itself
  before_keyed : (k : A) (t r : List A) → slice_cmp R t r ≡ Less → is_at R 0 k r ≡ true → is_at R 0 k t ≡ false → IsBefore R k t
  before_keyed k [] r lt at other = tt
  before_keyed k (x ∷ t) [] lt at other = absurd (let f : ⊥ = cc in f)
  before_keyed k (x ∷ t) (y ∷ r) lt at other =
      let is = tied-is exact k y at in
      first_less x y (slice_cmp R t r) lt (R x k ≡ Less)
      (λ below. ap (R x) is ∙ below)
      (λ tied. let n : true ≡ false = sym at ∙ ap (eq_by_cmp R k) (sym (exact x y tied)) ∙ other in absurd (let f : ⊥ = cc in f))

  after_keyed : (k : A) (r t : List A) → slice_cmp R r t ≡ Less → is_at R 0 k r ≡ true → is_at R 0 k t ≡ false → IsAfter R k t
  after_keyed k [] t lt at other = absurd (let f : ⊥ = cc in f)
  after_keyed k (y ∷ r) [] lt at other = absurd (let f : ⊥ = cc in f)
  after_keyed k (y ∷ r) (x ∷ t) lt at other =
      let is = tied-is exact k y at in
      first_less y x (slice_cmp R r t) lt (R k x ≡ Less)
      (λ below. ap (λ z. R z x) is ∙ below)
      (λ tied. let n : true ≡ false = sym at ∙ ap (eq_by_cmp R k) (exact y x tied) ∙ other in absurd (let f : ⊥ = cc in f))

  before_before : (k : A) (t s : List A) → slice_cmp R t s ≡ Less → IsBefore R k s → IsBefore R k t
  before_before k [] s lt before = tt
  before_before k (x ∷ t) [] lt before = absurd (let f : ⊥ = cc in f)
  before_before k (x ∷ t) (y ∷ s) lt before =
      first_less x y (slice_cmp R t s) lt (R x k ≡ Less)
      (λ below. o.trans x y k below before)
      (λ tied. o.congr x y k tied ∙ before)

  after_after : (k : A) (s t : List A) → slice_cmp R s t ≡ Less → IsAfter R k s → IsAfter R k t
  after_after k [] t lt after = absurd after
  after_after k (y ∷ s) [] lt after = absurd (let f : ⊥ = cc in f)
  after_after k (y ∷ s) (x ∷ t) lt after =
      first_less y x (slice_cmp R s t) lt (R k x ≡ Less)
      (λ below. o.trans k y x after below)
      (λ tied. ap (R k) (sym (exact y x tied)) ∙ after)

  all_before : (k : A) (done : List (List A)) (r : List A) (rest : List (List A)) → IsStrictlySortedBy (slice_cmp R) (done ++ r ∷ rest) → is_at R 0 k r ≡ true → ((d : List A) → 0 < length done → is_at R 0 k (slice_index_or done (length done - 1) d) ≡ false) → AllByRecursion (IsBefore R k) done
  all_before k [] r rest s at last = tt
  all_before k (t ∷ []) r rest s at last =
      (before_keyed k t r (sorted_head (slice_cmp R) t (r ∷ rest) s).0 at (last t (omega arith)), tt)
  all_before k (t ∷ u ∷ done) r rest s at last =
      let place : suc (length (u ∷ done) - 1) ≡ length (t ∷ u ∷ done) - 1 = omega arith in
      let later = all_before k (u ∷ done) r rest (sorted_tail (slice_cmp R) t (u ∷ done ++ r ∷ rest) s) at (λ d h. ap (λ j. is_at R 0 k (slice_index_or (t ∷ u ∷ done) j d)) place ∙ last d (omega arith)) in
      (before_before k t u (sorted_head (slice_cmp R) t (u ∷ done ++ r ∷ rest) s).0 later.0, later)

  later_after : (k : A) (s : List A) (ts : List (List A)) → IsStrictlySortedBy (slice_cmp R) (s ∷ ts) → IsAfter R k s → AllByRecursion (IsAfter R k) ts
  later_after k s [] sorted after = tt
  later_after k s (t ∷ ts) sorted after =
      let next = after_after k s t (sorted_head (slice_cmp R) s (t ∷ ts) sorted).0 after in
      (next, later_after k t ts (sorted_tail (slice_cmp R) s (t ∷ ts) sorted) next)

  -- ---- the laws of a run

  -- in a rising list of tuples that all have k at the front, the tuples without it rise
  rising-without_front : (k : A) (ts : List (List A)) → IsStrictlySortedBy (slice_cmp R) ts → AllByRecursion (λ t. is_at R 0 k t ≡ true) ts → IsStrictlySortedBy (slice_cmp R) (without_front ts)
  unfolding IsStrictlySortedBy
  rising-without_front k [] s all = tt
  rising-without_front k (t ∷ ts) s all = (above t ts all.0 all.1 s.0, rising-without_front k ts s.1 all.1) where
    under_less : (t u : List A) → is_at R 0 k t ≡ true → is_at R 0 k u ≡ true → slice_cmp R t u ≡ Less → slice_cmp R (remove t 0) (remove u 0) ≡ Less
    under_less [] u a b lt = absurd (let f : ⊥ = cc in f)
    under_less (x ∷ t) [] a b lt = absurd (let f : ⊥ = cc in f)
    under_less (x ∷ t) (y ∷ u) a b lt =
        let same : R x y ≡ Equal = ap (R x) (sym (tied-is exact k y b) ∙ tied-is exact k x a) ∙ tied_itself o x in
        ap (λ r. ordering_then r (slice_cmp R t u)) (sym same) ∙ lt

    above : (t : List A) (us : List (List A)) → is_at R 0 k t ≡ true → AllByRecursion (λ u. is_at R 0 k u ≡ true) us → AllByRecursion (λ u. slice_cmp R t u ≡ Less) us → AllByRecursion (λ u. slice_cmp R (remove t 0) u ≡ Less) (without_front us)
    above t [] a all lt = tt
    above t (u ∷ us) a all lt = (under_less t u a all.0 lt.0, above t us a all.1 lt.1)

  module _ (k : A) (done run rest : List (List A)) (is : IsRun R k done run rest) where
    sorted_run_rest : IsStrictlySortedBy (slice_cmp R) (run ++ rest)
    sorted_run_rest = sorted_last (slice_cmp R) done (run ++ rest) is.sorted

    -- every tuple before the run is below the key
    pub run_before : All (IsBefore R k) done
    run_before = elim run as (λ ts. IsStrictlySortedBy (slice_cmp R) (done ++ (ts ++ rest)) → 0 < length ts → All (λ t. is_at R 0 k t ≡ true) ts → All (IsBefore R k) done) [
      | [] ↦ λ s some keyed. absurd (omega arith)
      | r ∷ ts ↦ λ s some keyed. All-from_recursion (IsBefore R k) done (all_before k done r (ts ++ rest) s (All-head (λ t. is_at R 0 k t ≡ true) r ts keyed) is.begins)
    ] is.sorted is.some is.keyed

    -- and every tuple after it above
    pub run_after : All (IsAfter R k) rest
    run_after = All-from_recursion (IsAfter R k) rest (elim rest as (λ us. IsStrictlySortedBy (slice_cmp R) (run ++ us) → ((d : List A) → 0 < length us → is_at R 0 k (slice_index_or us 0 d) ≡ false) → AllByRecursion (IsAfter R k) us) [
      | [] ↦ λ s ends. tt
      | u ∷ us ↦ λ s ends.
          let below : slice_cmp R (slice_index_or run 0 u) u ≡ Less = All-below_middle (slice_cmp R) run u us s 0 u is.some in
          let next = after_keyed k (slice_index_or run 0 u) u below (is.keyed 0 u is.some) (ends u (omega arith)) in
          (next, later_after k u us (sorted_last (slice_cmp R) run (u ∷ us) s) next)
    ] sorted_run_rest is.ends)

    -- the slice at the key is the run without the key
    pub slice_run : slice R (set_of R (done ++ (run ++ rest))) 0 k ≡ set_of R (without_front run)
    slice_run =
        let before = front_slice_none done k (All-weaker (IsBefore R k) (λ t. is_at R 0 k t ≡ false) (not_at_before k) done run_before) in
        let after = front_slice_none rest k (All-weaker (IsAfter R k) (λ t. is_at R 0 k t ≡ false) (not_at_after k) rest run_after) in
        slice_front_append done (run ++ rest) k
        ∙ (λ j. set.union (before j) ((slice_front_append run rest k ∙ (λ h. set.union (front_slice_all run k is.keyed h) (after h))) j))
        ∙ ap (set.union (empty R)) (union_empty (lists_total o) (slice_cmp-IsAntisymmetric exact) (set_of R (without_front run)))
        ∙ empty_union (set_of R (without_front run)) where
          empty_union : (S : TupleSet R) → set.union (empty R) S ≡ S
          empty_union S = same_sets o exact _ _ (λ t. set.contains-union (lists_total o) (empty R) S t ∙ ap (λ b. b || has S t) (set.contains-empty (slice_cmp R) t))

    -- which rises
    pub sorted_run : IsStrictlySortedBy (slice_cmp R) (without_front run)
    sorted_run = rising-without_front k run (sorted_first (slice_cmp R) run rest sorted_run_rest) (recursion_from_All (λ t. is_at R 0 k t ≡ true) run is.keyed)

  same_key : (k q : A) (t : List A) → is_at R 0 k t ≡ true → is_at R 0 q t ≡ true → q ≡ k
  same_key k q [] e f = absurd (let n : ⊥ = cc in n)
  same_key k q (x ∷ t) e f = tied-is exact q x f ∙ sym (tied-is exact k x e)

  -- the next run begins where one ends
  pub run_next : (k q : A) (done run next rest : List (List A)) → IsRun R k done run (next ++ rest) → 0 < length next → All (λ t. is_at R 0 q t ≡ true) next → ((d : List A) → 0 < length rest → is_at R 0 q (slice_index_or rest 0 d) ≡ false) → IsRun R q (done ++ run) next rest
  run_next k q done run next rest is some keyed ends = record {
    sorted = subst (IsStrictlySortedBy (slice_cmp R)) (sym (append_assoc done run (next ++ rest))) is.sorted;
    some = some;
    keyed = keyed;
    begins = λ d h.
        let n = length-append done run in
        let place : slice_index_or (done ++ run) (length (done ++ run) - 1) d ≡ slice_index_or run (length (done ++ run) - 1 - length done) d = get_or-append_right done run (length done) (length (done ++ run) - 1) d refl (let m = is.some in omega arith) in
        let here : is_at R 0 k (slice_index_or run (length (done ++ run) - 1 - length done) d) ≡ true = is.keyed _ d (let m = is.some in omega arith) in
        ap (is_at R 0 q) place ∙ false_from_ne_true _ (λ there. other (same_key k q _ here there));
    ends = ends;
  } where
    other : q ≢ k
    other same =
        let first : slice_index_or (next ++ rest) 0 [] ≡ slice_index_or next 0 [] = get_or_append_left next rest [] 0 some in
        let n : true ≡ false = sym (keyed 0 [] some) ∙ (λ j. is_at R 0 (same j) (sym first j)) ∙ is.ends [] (let m = length-append next rest in omega arith) in
        cc
