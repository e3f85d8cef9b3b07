-- A solution is found: what goes with it, and what is left.
use Rattle.std.specs.Prelude.{◌≡◌, ℕ, zero, suc, ◌+◌, ◌<◌, ◌≤◌, ◌^◌, ◌&&◌, ◌||◌, Bool, true, false, not, nat_lt, nat_eq, List, [], ◌∷◌, ◌++◌, length, take, drop, slice_index_or, refl, None, Some}
use Rattle.std.proofs.Common.{sym, ◌∙◌, ap, subst, arith}
use Rattle.std.proofs.lemmas.Bool.Decides.{nat_tests}
use Rattle.std.proofs.Math.Seq.{take-length}
use Rattle.std.proofs.lemmas.Cmp.{nat_cmp_total, lists_total}
use Rattle.std.proofs.lemmas.List.{get_or-take, take-append-drop, take_more, length-take-le, drop_all}
use Rattle.std.proofs.lemmas.List.Sorted.{IsPermutation-cons, IsPermutation-trans, IsPermutation-append_comm, IsPermutation-append_left, length_permutation, list_any-IsPermutation}
use Rattle.std.specs.Cmp.{unsigned_tied}
use Rattle.std.specs.FinMap.{nat_cmp-IsAntisymmetric}
use Rattle.std.specs.FinSet.{slice_cmp-IsAntisymmetric}
use Rattle.std.specs.List.{AllByRecursion, IsDistinct, list_any, range_with_len}
use Rattle.std.specs.List.Sorted.{IsPermutation}
use Rattle.std.specs.Ordering.{nat_cmp, eq_by_cmp}
use native.Mathlib.Decide.{dec_lt}
use Rattle.hypertrie_model.specs.IdSets.{IdSet}
use Rattle.hypertrie_model.specs.Sets.{has, HasDepth}
use Rattle.hypertrie_model.specs.SetLaws.{and_both, or_cases, or_right, same_test, tied-is, tied-itself}
use Rattle.hypertrie_model.specs.Slices.{at, is_at}
use Rattle.trie_depth.specs.declared.id.Id.{Id}
use Rattle.bag_model.specs.ListLaws.{any-filter, distinct-filter, same_members}
use Rattle.bag_model.specs.Solutions.{image, is_solution}
use Rattle.bag_model.specs.SolutionLaws.{any-solutions, distinct-solutions, exact_assignments, is_assignment, same_assignment, same_element}
use Rattle.bag_list.specs.declared.level.Level.{Level}
use Rattle.bag_list.specs.declared.track.Track.{Track}
use Rattle.bag_list.specs.Labels.{labels_of, without}
use Rattle.bag_list.specs.Levels.{agrees, at_key, coming, from_of, is_below, level_labels, to_come, within}
use Rattle.bag_list.specs.Search.{AreKept, id_solutions, ids_below, numbers}
use Rattle.bag_list.specs.Tracks.{part_set, parts_of, rests, set_with, unfixed}
use Rattle.bag_list.proofs.ComingLemmas.{coming-all, coming-append}
use Rattle.bag_list.proofs.Images.{at-is_at, is_at-at}
use Rattle.bag_list.proofs.PartSets.{admits-part, has-one, last-has}
use Rattle.bag_list.proofs.MemberLemmas.{IsMember, all-left, all-members, any-unfixed, below-at}
use Rattle.bag_list.proofs.Places.{append_none, permutation-equal}
use Rattle.bag_list.proofs.SearchLemmas.{agrees-more, exact_numbers, labels-small, unfixed-more}
use Rattle.bag_list.proofs.TrackLemmas.{part-deep}

-- a was found among what was to come: with it go those that no telling label tells from it, and none of those that are left
pub record IsFound (telling : ℕ → Bool) (old new : List (List ℕ)) (a : List ℕ) : Type 0 where
  pub others : List (List ℕ)
  pub are : IsPermutation old (a ∷ (others ++ new))
  pub alike : AllByRecursion (λ b. (l : ℕ) → telling l ≡ true → at l b ≡ at l a) others
  pub none : ((l : ℕ) → telling l ≡ true) → others ≡ []
  pub apart : AllByRecursion (λ b. (l : ℕ) × (telling l ≡ true) × (at l b ≡ at l a → ⊥)) new

-- a label that stands among those of the levels stands at one of them
any-at : (l : ℕ) (fs : List Level) → list_any (nat_eq l) (level_labels fs) ≡ true → (j : ℕ) × (j < length fs) × ((f : Level) → l ≡ (slice_index_or fs j f).label)
any-at l [] e = absurd (let f : ⊥ = cc in f)
any-at l (g ∷ fs) e = or_cases (nat_eq l g.label) (list_any (nat_eq l) (level_labels fs)) e _
    (λ here. (0, (let z : 0 < length (g ∷ fs) = omega arith in z), λ f. exact_numbers.is l g.label here))
    (λ later. let h = any-at l fs later in (suc h.0, (let lt = h.1 in let z : suc h.0 < length (g ∷ fs) = omega (arith, lt) in z), h.2))

-- ---- all numbers of ids

pub any-ids_below : (n x : ℕ) → x < n → list_any (same_element nat_cmp x) (ids_below n) ≡ true
unfolding ids_below
any-ids_below n x lt = from 0 n (omega arith) (omega (arith, lt)) where
  from : (a m : ℕ) → a ≤ x → x < a + m → list_any (same_element nat_cmp x) (range_with_len a m) ≡ true
  from a zero le lt = absurd (omega (arith, le, lt))
  from a (suc m) le lt = elim (nat_eq x a) as (λ b. nat_eq x a ≡ b → (eq_by_cmp nat_cmp x a || list_any (same_element nat_cmp x) (range_with_len (a + 1) m)) ≡ true) [
    | true ↦ λ e. ap (λ b. b || list_any (same_element nat_cmp x) (range_with_len (a + 1) m)) (unsigned_tied x a ∙ e)
    | false ↦ λ e. ap (λ b. b || list_any (same_element nat_cmp x) (range_with_len (a + 1) m)) (unsigned_tied x a ∙ e) ∙ from (a + 1) m (let ne : a < x = grind (arith, nat_tests) in omega (arith, ne)) (omega (arith, lt))
  ] refl

pub distinct-ids_below : (n : ℕ) → IsDistinct (same_element nat_cmp) (ids_below n)
unfolding ids_below IsDistinct
distinct-ids_below n = from 0 n where
  above : (a b m : ℕ) → a < b → AllByRecursion (λ y. same_element nat_cmp a y ≡ false) (range_with_len b m)
  above a b zero lt = tt
  above a b (suc m) lt = (unsigned_tied a b ∙ (let e : nat_eq a b ≡ false = grind (arith, nat_tests) in e), above a (b + 1) m (omega (arith, lt)))

  from : (a m : ℕ) → IsDistinct (same_element nat_cmp) (range_with_len a m)
  from a zero = tt
  from a (suc m) = (above a (a + 1) m (omega arith), from (a + 1) m)

ids-assigned : (N n : ℕ) (a : List ℕ) → length a ≡ n → AllByRecursion (λ x. x < N) a → is_assignment nat_cmp (ids_below N) n a ≡ true
ids-assigned N zero [] e all = refl
ids-assigned N zero (x ∷ a) e all = absurd (omega (arith, e))
ids-assigned N (suc n) [] e all = absurd (omega (arith, e))
ids-assigned N (suc n) (x ∷ a) e all = (λ j. any-ids_below N x all.0 j && ids-assigned N n a (omega (arith, e)) all.1 j)

-- ---- lists by their elements at each place

pub same-at : (n : ℕ) (a b : List ℕ) → length a ≡ n → length b ≡ n → ((l : ℕ) → l < n → at l a ≡ at l b) → a ≡ b
same-at zero [] [] e f same = refl
same-at zero [] (y ∷ b) e f same = absurd (omega (arith, f))
same-at zero (x ∷ a) b e f same = absurd (omega (arith, e))
same-at (suc n) [] b e f same = absurd (omega (arith, e))
same-at (suc n) (x ∷ a) [] e f same = absurd (omega (arith, f))
same-at (suc n) (x ∷ a) (y ∷ b) e f same =
    let some : Some x ≡ Some y = same 0 (omega arith) in
    let head : x ≡ y = cc in
    (λ j. head j ∷ same-at n a b (omega (arith, e)) (omega (arith, f)) (λ l lt. same (suc l) (omega (arith, lt))) j)

pub at-numbers : (values : List Id) (l : ℕ) (k : Id) → l < length values → at l (numbers values) ≡ Some (slice_index_or values l k).0
at-numbers [] l k lt = absurd (omega (arith, lt))
at-numbers (v ∷ values) zero k lt = refl
at-numbers (v ∷ values) (suc l) k lt = at-numbers values l k (omega (arith, lt))

pub length-numbers : (values : List Id) → length (numbers values) ≡ length values
length-numbers [] = refl
length-numbers (v ∷ values) = ap suc (length-numbers values)

at-past : (l : ℕ) (a : List ℕ) → length a ≤ l → at l a ≡ None
at-past l [] le = refl
at-past zero (x ∷ a) le = absurd (omega (arith, le))
at-past (suc l) (x ∷ a) le = at-past l a (omega (arith, le))

-- ---- what holds of each element

all-at : (P : ℕ → Type 0) (a : List ℕ) → ((l x : ℕ) → l < length a → at l a ≡ Some x → P x) → AllByRecursion P a
all-at P [] each = tt
all-at P (x ∷ a) each = (each 0 x (omega arith) refl, all-at P a (λ l y lt. each (suc l) y (omega (arith, lt))))

all-places : {X : Type 0} (P : X → Type 0) (xs : List X) → ((j : ℕ) (d : X) → j < length xs → P (slice_index_or xs j d)) → AllByRecursion P xs
all-places P [] each = tt
all-places P (x ∷ xs) each = (each 0 x (omega arith), all-places P xs (λ j d lt. each (suc j) d (omega (arith, lt))))

all-of : {X : Type 0} (P : X → Type 0) (xs : List X) → ((x : X) → P x) → AllByRecursion P xs
all-of P [] each = tt
all-of P (x ∷ xs) each = (each x, all-of P xs each)

no-numbers : (xs : List ℕ) → ((m : ℕ) → list_any (nat_eq m) xs ≡ true → ⊥) → xs ≡ []
no-numbers [] none = refl
no-numbers (x ∷ xs) none = absurd (none x (ap (λ b. b || list_any (nat_eq x) xs) (exact_numbers.itself x)))

agrees-places : (fs : List Level) (a : List ℕ) → ((j : ℕ) (f : Level) → j < length fs → at (slice_index_or fs j f).label a ≡ Some (slice_index_or fs j f).key.0) → agrees fs a ≡ true
agrees-places [] a each = refl
agrees-places (f ∷ fs) a each = (λ i. is_at-at f.label f.key.0 a (each 0 f (omega arith)) i && agrees-places fs a (λ j g lt. each (suc j) g (omega (arith, lt))) i)

agreed-at : (fs : List Level) (a : List ℕ) (j : ℕ) (f : Level) → agrees fs a ≡ true → j < length fs → at (slice_index_or fs j f).label a ≡ Some (slice_index_or fs j f).key.0
agreed-at [] a j f e lt = absurd (omega (arith, lt))
agreed-at (g ∷ fs) a zero f e lt = at-is_at g.label g.key.0 a (and_both (is_at nat_cmp g.label g.key.0 a) (agrees fs a) e).0
agreed-at (g ∷ fs) a (suc j) f e lt = agreed-at fs a j f (and_both (is_at nat_cmp g.label g.key.0 a) (agrees fs a) e).1 (omega (arith, lt))

-- ---- members of what is left

any-within : (T : List (List ℕ)) (fs : List Level) (q : List ℕ) → list_any (same_assignment nat_cmp q) (within T fs) ≡ (list_any (same_assignment nat_cmp q) T && agrees fs q)
any-within T [] q = and_true (list_any (same_assignment nat_cmp q) T) where
  and_true : (b : Bool) → b ≡ (b && true)
  and_true true = refl
  and_true false = refl
any-within T (f ∷ fs) q =
    any-within (at_key f.label f.key.0 T) fs q
    ∙ ap (λ b. b && agrees fs q) (any-filter (exact_assignments nat_cmp_total nat_cmp-IsAntisymmetric) (is_at nat_cmp f.label f.key.0) q T)
    ∙ assoc (list_any (same_assignment nat_cmp q) T) (is_at nat_cmp f.label f.key.0 q) (agrees fs q) where
      assoc : (a b c : Bool) → ((a && b) && c) ≡ (a && (b && c))
      assoc true b c = refl
      assoc false b c = refl

distinct-within : (T : List (List ℕ)) (fs : List Level) → IsDistinct (same_assignment nat_cmp) T → IsDistinct (same_assignment nat_cmp) (within T fs)
distinct-within T [] d = d
distinct-within T (f ∷ fs) d = distinct-within (at_key f.label f.key.0 T) fs (distinct-filter (exact_assignments nat_cmp_total nat_cmp-IsAntisymmetric) (is_at nat_cmp f.label f.key.0) T d)

solution-places : {O : Type 0} (tuples : O → IdSet) (tracks : List (Track O)) (a : List ℕ) → ((i : ℕ) (t : Track O) → i < length tracks → has (tuples (slice_index_or tracks i t).start.op) (image a (labels_of (slice_index_or tracks i t).start.labels)) ≡ true) → is_solution nat_cmp (rests tuples tracks) a ≡ true
solution-places tuples [] a each = refl
solution-places tuples (s ∷ tracks) a each = (λ j. each 0 s (omega arith) j && solution-places tuples tracks a (λ i t lt. each (suc i) t (omega (arith, lt))) j)

-- ---- all labels are fixed

module _ {O : Type 0} (depth_of : O → ℕ) (tuples : O → IdSet) (deep : (o : O) → HasDepth (depth_of o) (tuples o)) (telling : ℕ → Bool) (levels : List Level) (told : ℕ) (tracks : List (Track O)) (values : List Id) (kept : AreKept depth_of tuples telling levels (length levels) true told tracks values) where
  n-numbers : length (numbers values) ≡ length levels
  n-numbers = length-numbers values ∙ kept.n_values

  -- the level of a label
  level-of : (l : ℕ) → l < length levels → (j : ℕ) × (j < length levels) × ((f : Level) → l ≡ (slice_index_or levels j f).label)
  level-of l lt = any-at l levels (sym (list_any-IsPermutation (nat_eq l) (range_with_len 0 (length levels)) (level_labels levels) kept.labels) ∙ in_range 0 (length levels) (omega arith) (omega (arith, lt))) where
    in_range : (a m : ℕ) → a ≤ l → l < a + m → list_any (nat_eq l) (range_with_len a m) ≡ true
    in_range a zero le lt = absurd (omega (arith, le, lt))
    in_range a (suc m) le lt = elim (nat_eq l a) as (λ b. nat_eq l a ≡ b → (b || list_any (nat_eq l) (range_with_len (a + 1) m)) ≡ true) [
      | true ↦ λ e. refl
      | false ↦ λ e. in_range (a + 1) m (let ne : a < l = grind (arith, nat_tests) in omega (arith, ne)) (omega (arith, lt))
    ] refl

  -- the values are the keys of the levels
  value-at : (j : ℕ) (f : Level) → j < length levels → at (slice_index_or levels j f).label (numbers values) ≡ Some (slice_index_or levels j f).key.0
  value-at j f lt =
      at-numbers values (slice_index_or levels j f).label (slice_index_or levels j f).key (let small = labels-small levels kept.labels j f lt in let n = kept.n_values in omega (arith, small, n))
      ∙ ap (λ k. Some k.0) (kept.keys j f (slice_index_or levels j f).key lt)

  values-small : AllByRecursion (λ x. x < 2 ^ 32) (numbers values)
  values-small = all-at (λ x. x < 2 ^ 32) (numbers values) (λ l x lt e.
      let h = level-of l (subst (λ n. l < n) n-numbers lt) in
      let f : Level = record { label = 0; key = record { 0 = 0 }; from = None } in
      let key : (slice_index_or levels h.0 f).key.0 ≡ x = some-is _ _ (sym (ap (λ i. at i (numbers values)) (h.2 f) ∙ value-at h.0 f h.1) ∙ e) in
      subst (λ y. y < 2 ^ 32) key (kept.tried h.0 f (let low = h.1 in omega (arith, low))).1) where
        some-is : (x y : ℕ) → Some x ≡ Some y → x ≡ y
        some-is x y e = cc

  values-agree : agrees levels (numbers values) ≡ true
  values-agree = agrees-places levels (numbers values) value-at

  none-unfixed : (t : Track O) → AllByRecursion (λ l. l < length levels) (labels_of t.start.labels) → unfixed levels (labels_of t.start.labels) ≡ []
  none-unfixed t below = no-numbers (unfixed levels (labels_of t.start.labels)) (λ m e.
      let two = and_both (list_any (nat_eq m) (labels_of t.start.labels)) (not (list_any (nat_eq m) (level_labels levels))) (sym (any-unfixed m levels (labels_of t.start.labels)) ∙ e) in
      let h = level-of m (small m (labels_of t.start.labels) below two.0) in
      let f : Level = record { label = 0; key = record { 0 = 0 }; from = None } in
      let in_levels : list_any (nat_eq m) (level_labels levels) ≡ true = level-any levels m h.0 f h.1 (h.2 f) in
      let t : false ≡ true = ap not (sym in_levels) ∙ two.1 in
      absurd (let f : ⊥ = cc in f)) where
        small : (m : ℕ) (ls : List ℕ) → AllByRecursion (λ l. l < length levels) ls → list_any (nat_eq m) ls ≡ true → m < length levels
        small m [] all e = absurd (let f : ⊥ = cc in f)
        small m (l ∷ ls) all e = or_cases (nat_eq m l) (list_any (nat_eq m) ls) e (m < length levels) (λ here. subst (λ k. k < length levels) (sym (exact_numbers.is m l here)) all.0) (λ later. small m ls all.1 later)

        level-any : (fs : List Level) (m j : ℕ) (f : Level) → j < length fs → m ≡ (slice_index_or fs j f).label → list_any (nat_eq m) (level_labels fs) ≡ true
        level-any [] m j f lt e = absurd (omega (arith, lt))
        level-any (g ∷ fs) m zero f lt e = ap (λ b. b || list_any (nat_eq m) (level_labels fs)) (ap (nat_eq m) (sym e) ∙ exact_numbers.itself m)
        level-any (g ∷ fs) m (suc j) f lt e = or_right (nat_eq m g.label) (list_any (nat_eq m) (level_labels fs)) (level-any fs m j f (omega (arith, lt)) e)

  values-solve : is_solution nat_cmp (rests tuples tracks) (numbers values) ≡ true
  values-solve = solution-places tuples tracks (numbers values) (λ i t lt. by (length levels) refl i t lt) where
    -- there is no label
    at_once : length levels ≡ 0 → (i : ℕ) (t : Track O) → i < length tracks → has (tuples (slice_index_or tracks i t).start.op) (image (numbers values) (labels_of (slice_index_or tracks i t).start.labels)) ≡ true
    at_once none i t lt =
        let track = kept.patterns i t lt in
        let x = slice_index_or tracks i t in
        let p = x.start in
        let left = track.left 0 p (omega arith) (omega arith) in
        let y = slice_index_or (parts_of x) 0 p in
        let labels : labels_of y.labels ≡ [] = left.labels ∙ ap (λ fs. unfixed fs (labels_of p.labels)) (sym (no-levels levels none)) ∙ none-unfixed x track.below in
        sym (left.image (numbers values) refl)
        ∙ ap (λ ls. has (set_with ls (tuples y.op)) (image (numbers values) ls)) labels
        ∙ has-one where
          no-levels : (fs : List Level) → length fs ≡ 0 → fs ≡ []
          no-levels [] e = refl
          no-levels (f ∷ fs) e = absurd (omega (arith, e))

    -- this label is the last one
    at_last : (last : ℕ) → length levels ≡ suc last → (i : ℕ) (t : Track O) → i < length tracks → has (tuples (slice_index_or tracks i t).start.op) (image (numbers values) (labels_of (slice_index_or tracks i t).start.labels)) ≡ true
    at_last last n i t lt =
        let track = kept.patterns i t lt in
        let x = slice_index_or tracks i t in
        let p = x.start in
        let d : Level = record { label = 0; key = record { 0 = 0 }; from = None } in
        let f = slice_index_or levels last d in
        let within : last < length levels = omega (arith, n) in
        let left = track.left last p (omega (arith, within)) (omega (arith, n)) in
        let y = slice_index_or (parts_of x) last p in
        let levels_are : levels ≡ take last levels ++ f ∷ [] = sym (take-length levels) ∙ ap (λ m. take m levels) (let e : length levels ≡ last + 1 = omega (arith, n) in e) ∙ take_more levels last d within in
        let labels : without f.label (labels_of y.labels) ≡ [] = ap (without f.label) left.labels ∙ sym (unfixed-more (take last levels) f (labels_of p.labels)) ∙ ap (λ fs. unfixed fs (labels_of p.labels)) (sym levels_are) ∙ none-unfixed x track.below in
        let agree : (agrees (take last levels) (numbers values) && is_at nat_cmp f.label f.key.0 (numbers values)) ≡ true = sym (agrees-more (take last levels) f (numbers values)) ∙ ap (λ fs. agrees fs (numbers values)) (sym levels_are) ∙ values-agree in
        let two = and_both (agrees (take last levels) (numbers values)) (is_at nat_cmp f.label f.key.0 (numbers values)) agree in
        sym (left.image (numbers values) two.0)
        ∙ last-has f.label f.key.0 (numbers values) (at-is_at f.label f.key.0 (numbers values) two.1) (part_set tuples y) (labels_of y.labels) (part-deep depth_of tuples deep y left.part) left.part.some labels
        (admits-part tuples f.label f.key.0 y (kept.admitted refl last d (omega (arith, n)) (omega (arith, n)) i t p lt))

    by : (n : ℕ) → length levels ≡ n → (i : ℕ) (t : Track O) → i < length tracks → has (tuples (slice_index_or tracks i t).start.op) (image (numbers values) (labels_of (slice_index_or tracks i t).start.labels)) ≡ true
    by zero e i t lt = at_once e i t lt
    by (suc last) e i t lt = at_last last e i t lt

  -- the values are the one solution that has the keys of all levels
  one-left : IsPermutation (within (id_solutions (length levels) (rests tuples tracks)) levels) (numbers values ∷ [])
  unfolding IsDistinct
  one-left = same_members (exact_assignments nat_cmp_total nat_cmp-IsAntisymmetric) _ (numbers values ∷ [])
      (λ q. any-within (id_solutions (length levels) (rests tuples tracks)) levels q
      ∙ ap (λ b. b && agrees levels q) (any-solutions nat_cmp_total nat_cmp-IsAntisymmetric (ids_below (2 ^ 32)) (length levels) (rests tuples tracks) q)
      ∙ same_test _ _ (into q) (back q))
      (distinct-within _ levels (distinct-solutions nat_cmp_total nat_cmp-IsAntisymmetric (ids_below (2 ^ 32)) (length levels) (rests tuples tracks) (distinct-ids_below (2 ^ 32))))
      (tt, tt) where
        into : (q : List ℕ) → ((is_assignment nat_cmp (ids_below (2 ^ 32)) (length levels) q && is_solution nat_cmp (rests tuples tracks) q) && agrees levels q) ≡ true → (same_assignment nat_cmp q (numbers values) || false) ≡ true
        into q e =
            let two = and_both (is_assignment nat_cmp (ids_below (2 ^ 32)) (length levels) q && is_solution nat_cmp (rests tuples tracks) q) (agrees levels q) e in
            let long = assigned-long (ids_below (2 ^ 32)) (length levels) q (and_both (is_assignment nat_cmp (ids_below (2 ^ 32)) (length levels) q) (is_solution nat_cmp (rests tuples tracks) q) two.0).0 in
            let is : q ≡ numbers values = same-at (length levels) q (numbers values) long n-numbers (λ l lt.
            let h = level-of l lt in
            let f : Level = record { label = 0; key = record { 0 = 0 }; from = None } in
            ap (λ i. at i q) (h.2 f) ∙ agreed-at levels q h.0 f two.1 h.1 ∙ sym (ap (λ i. at i (numbers values)) (h.2 f) ∙ value-at h.0 f h.1)) in
            ap (λ b. b || false) (ap (same_assignment nat_cmp q) (sym is) ∙ tied-itself (lists_total nat_cmp_total) q) where
              assigned-long : (u : List ℕ) (n : ℕ) (a : List ℕ) → is_assignment nat_cmp u n a ≡ true → length a ≡ n
              assigned-long u zero [] e = refl
              assigned-long u zero (x ∷ a) e = absurd (let f : ⊥ = cc in f)
              assigned-long u (suc n) [] e = absurd (let f : ⊥ = cc in f)
              assigned-long u (suc n) (x ∷ a) e = ap suc (assigned-long u n a (and_both (list_any (same_element nat_cmp x) u) (is_assignment nat_cmp u n a) e).1)

        back : (q : List ℕ) → (same_assignment nat_cmp q (numbers values) || false) ≡ true → ((is_assignment nat_cmp (ids_below (2 ^ 32)) (length levels) q && is_solution nat_cmp (rests tuples tracks) q) && agrees levels q) ≡ true
        back q e = or_cases (same_assignment nat_cmp q (numbers values)) false e _
            (λ here.
            let is : q ≡ numbers values = tied-is (slice_cmp-IsAntisymmetric nat_cmp-IsAntisymmetric) q (numbers values) here in
            subst (λ p. ((is_assignment nat_cmp (ids_below (2 ^ 32)) (length levels) p && is_solution nat_cmp (rests tuples tracks) p) && agrees levels p) ≡ true) (sym is)
            (λ j. (ids-assigned (2 ^ 32) (length levels) (numbers values) n-numbers values-small j && values-solve j) && values-agree j))
            (λ never. absurd (let f : ⊥ = cc in f))

  -- what a label that tells rows apart is: that of a level before `told`
  telling-level : (l : ℕ) → l < length levels → telling l ≡ true → (j : ℕ) × (j < told) × (j < length levels) × ((f : Level) → l ≡ (slice_index_or levels j f).label)
  telling-level l lt tells =
      let h = level-of l lt in
      let f : Level = record { label = 0; key = record { 0 = 0 }; from = None } in
      let low : nat_lt h.0 told ≡ true = sym (kept.first h.0 f h.1) ∙ ap telling (sym (h.2 f)) ∙ tells in
      (h.0, (let z : h.0 < told = grind (arith, nat_tests) in z), h.1, h.2)

  front-at : (j : ℕ) (f : Level) → j < told → slice_index_or (take told levels) j f ≡ slice_index_or levels j f
  front-at j f lt = get_or-take told levels j f lt

  n-front : length (take told levels) ≡ told
  n-front = length-take-le told levels kept.told_within

  -- an assignment that has the keys of the telling levels is like the values there
  alike-front : (b : List ℕ) → IsMember (length levels) (rests tuples tracks) b × (agrees (take told levels) b ≡ true) → (l : ℕ) → telling l ≡ true → at l b ≡ at l (numbers values)
  alike-front b h l tells = elim (dec_lt l (length levels)) as (λ _. at l b ≡ at l (numbers values)) [
    | yes lt ↦
        let j = telling-level l lt tells in
        let f : Level = record { label = 0; key = record { 0 = 0 }; from = None } in
        ap (λ i. at i b) (j.3 f ∙ ap (λ g. g.label) (sym (front-at j.0 f j.1)))
        ∙ agreed-at (take told levels) b j.0 f h.1 (subst (λ n. j.0 < n) (sym n-front) j.1)
        ∙ ap (λ g. Some g.key.0) (front-at j.0 f j.1)
        ∙ sym (ap (λ i. at i (numbers values)) (j.3 f) ∙ value-at j.0 f j.2)
    | no ge ↦
        at-past l b (let n = h.0.long in omega (arith, n, ge)) ∙ sym (at-past l (numbers values) (let n = n-numbers in omega (arith, n, ge)))
  ]

  -- one that has at a telling level a key that is still to be tried is apart
  apart-front : (j : ℕ) (f : Level) → j < told → (b : List ℕ) → is_below (slice_index_or levels j f).label (from_of (slice_index_or levels j f).from) b ≡ false → (l : ℕ) × (telling l ≡ true) × (at l b ≡ at l (numbers values) → ⊥)
  apart-front j f lt b high =
      let within : j < length levels = let w = kept.told_within in omega (arith, lt, w) in
      let g = slice_index_or levels j f in (
        g.label,
        kept.first j f within ∙ (let t : nat_lt j told ≡ true = grind (arith, nat_tests) in t),
        λ same.
            let tried = (kept.tried j f (omega (arith, within))).0 in
            let low : is_below g.label (from_of g.from) b ≡ true = below-at g.label g.key.0 (from_of g.from) b (same ∙ value-at j f within) ∙ (let t : nat_lt g.key.0 (from_of g.from) ≡ true = grind (arith, nat_tests) in t) in
            let f : true ≡ false = sym low ∙ high in cc,
      )

  pub found : (old : List (List ℕ)) → IsPermutation old (to_come (id_solutions (length levels) (rests tuples tracks)) levels true) → IsFound telling old (to_come (id_solutions (length levels) (rests tuples tracks)) (take told levels) false) (numbers values)
  found old before = record {
    others = coming (within (id_solutions (length levels) (rests tuples tracks)) (take told levels)) (drop told levels);
    are = IsPermutation-trans old _ _ before (split (id_solutions (length levels) (rests tuples tracks)) one-left);
    alike = coming-all _ _ (within (id_solutions (length levels) (rests tuples tracks)) (take told levels)) (drop told levels) (all-left (length levels) (rests tuples tracks) (take told levels)) (all-of _ (drop told levels) (λ _ b h _. alike-front b h));
    none = λ all. ap (coming (within (id_solutions (length levels) (rests tuples tracks)) (take told levels))) (drop_all told levels (whole all));
    apart = subst (AllByRecursion (λ b. (l : ℕ) × (telling l ≡ true) × (at l b ≡ at l (numbers values) → ⊥))) (sym (append_none (coming (id_solutions (length levels) (rests tuples tracks)) (take told levels))))
        (coming-all (IsMember (length levels) (rests tuples tracks)) _ (id_solutions (length levels) (rests tuples tracks)) (take told levels) (all-members (length levels) (rests tuples tracks))
        (all-places _ (take told levels) (λ j f lt b _ high.
        let low : j < told = subst (λ n. j < n) n-front lt in
        apart-front j f low b (ap (λ g. is_below g.label (from_of g.from) b) (sym (front-at j f low)) ∙ high))));
  } where
    whole : ((l : ℕ) → telling l ≡ true) → length levels ≤ told
    whole all = elim (dec_lt told (length levels)) as (λ _. length levels ≤ told) [
      | yes lt ↦
          let f : Level = record { label = 0; key = record { 0 = 0 }; from = None } in
          let out : nat_lt told told ≡ true = sym (kept.first told f lt) ∙ all (slice_index_or levels told f).label in
          let no : nat_lt told told ≡ false = grind (arith, nat_tests) in
          let t : true ≡ false = sym out ∙ no in absurd (let f : ⊥ = cc in f)
      | no ge ↦ omega (arith, ge)
    ]

    split : (T : List (List ℕ)) → IsPermutation (within T levels) (numbers values ∷ []) → IsPermutation (to_come T levels true) (numbers values ∷ (coming (within T (take told levels)) (drop told levels) ++ to_come T (take told levels) false))
    split T one =
        let C = coming T (take told levels) in
        let D = coming (within T (take told levels)) (drop told levels) in
        let parts : coming T levels ≡ coming T (take told levels) ++ coming (within T (take told levels)) (drop told levels) = ap (coming T) (sym (take-append-drop told levels)) ∙ coming-append T (take told levels) (drop told levels) in
        permutation-equal ((C ++ D) ++ within T levels) (to_come T levels true) (numbers values ∷ (D ++ C)) (numbers values ∷ (D ++ to_come T (take told levels) false))
        (λ j. parts j ++ within T levels)
        (λ j. numbers values ∷ (D ++ append_none (coming T (take told levels)) j))
        (IsPermutation-trans _ _ _ (IsPermutation-append_comm (C ++ D) (within T levels))
        (IsPermutation-trans _ _ _ (IsPermutation-append_left (C ++ D) (within T levels) (numbers values ∷ []) one)
        (IsPermutation-cons (numbers values) _ _ (IsPermutation-append_comm C D))))

-- ---- the same for a search as it stands

pub to_come-none : (T old : List (List ℕ)) (levels : List Level) (depth : ℕ) (fresh : Bool) → depth ≡ 0 → fresh ≡ false → IsPermutation old (to_come T (take depth levels) fresh) → (old ≡ []) × (to_come T (take depth levels) fresh ≡ [])
to_come-none T old levels depth fresh start stale before =
    let none : to_come T (take depth levels) fresh ≡ [] = (λ j. to_come T (take (start j) levels) (stale j)) in
    (nil old (sym (length_permutation old _ before) ∙ ap length none), none) where
      nil : (xs : List (List ℕ)) → length xs ≡ 0 → xs ≡ []
      nil [] e = refl
      nil (x ∷ xs) e = absurd (omega (arith, e))

pub found-here : {O : Type 0} (depth_of : O → ℕ) (tuples : O → IdSet) (deep : (o : O) → HasDepth (depth_of o) (tuples o)) (telling telling' : ℕ → Bool) (levels : List Level) (depth : ℕ) (fresh : Bool) (told : ℕ) (tracks : List (Track O)) (values : List Id) (old : List (List ℕ)) → AreKept depth_of tuples telling levels depth fresh told tracks values → telling' ≡ telling → fresh ≡ true → length levels ≤ depth → IsPermutation old (to_come (id_solutions (length levels) (rests tuples tracks)) (take depth levels) fresh) → IsFound telling' old (to_come (id_solutions (length levels) (rests tuples tracks)) (take told levels) false) (numbers values)
found-here depth_of tuples deep telling telling' levels depth fresh told tracks values old kept same new le before =
    let whole : depth ≡ length levels = let w = kept.within in omega (arith, w, le) in
    subst (λ t. IsFound t old (to_come (id_solutions (length levels) (rests tuples tracks)) (take told levels) false) (numbers values)) (sym same)
    (found depth_of tuples deep telling levels told tracks values
    (subst (λ b. AreKept depth_of tuples telling levels (length levels) b told tracks values) new (subst (λ d. AreKept depth_of tuples telling levels d fresh told tracks values) whole kept))
    old
    (subst (IsPermutation old) (λ j. to_come (id_solutions (length levels) (rests tuples tracks)) ((ap (λ d. take d levels) whole ∙ take-length levels) j) (new j)) before))
