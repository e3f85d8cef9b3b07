-- The solutions that are left: the keys that they have, and what they are once all labels are fixed.
use Rattle.std.specs.Prelude.{◌≡◌, ℕ, zero, suc, ◌+◌, ◌-◌, ◌<◌, ◌≤◌, ◌^◌, ◌&&◌, ◌||◌, Bool, true, false, not, nat_lt, nat_eq, List, [], ◌∷◌, length, map, take, slice_index_or, refl, Some}
use Rattle.std.proofs.Common.{◌∙◌, ap, arith}
use Rattle.std.specs.List.{AllByRecursion, flat_map, list_any, range_with_len}
use Rattle.std.specs.Ordering.{nat_cmp}
use Rattle.hypertrie_model.specs.IdSets.{IdSet}
use Rattle.hypertrie_model.specs.Sets.{has, HasDepth}
use Rattle.hypertrie_model.specs.SetLaws.{and_both}
use Rattle.hypertrie_model.specs.Slices.{at}
use Rattle.bag_model.specs.ListLaws.{any-filter}
use Rattle.bag_model.specs.Solutions.{Rest, assignments, image, is_solution}
use Rattle.bag_list.specs.declared.level.Level.{Level}
use Rattle.bag_list.specs.declared.track.Track.{Track}
use Rattle.bag_list.specs.Labels.{labels_of, without}
use Rattle.bag_list.specs.Levels.{agrees, is_below, level_labels, within}
use Rattle.bag_list.specs.Search.{id_solutions, ids_below}
use Rattle.bag_list.specs.Tracks.{AllAdmitAt, AreTracks, HasSolutionAt, part_at, part_set, rests, unfixed}
use Rattle.bag_list.proofs.ComingLemmas.{all-append, all-filtered, all-weaker, within-all}
use Rattle.bag_list.proofs.Images.{image-admits}
use Rattle.bag_list.proofs.PartSets.{part-admits}
use Rattle.bag_list.proofs.SearchLemmas.{exact_numbers}
use Rattle.bag_list.proofs.TrackLemmas.{part-deep}

-- ---- members of the lists of solutions

-- a has n ids, and is a solution
pub record IsMember (n : ℕ) (rests : List (Rest nat_cmp)) (a : List ℕ) : Type 0 where
  pub long : length a ≡ n
  pub ids : AllByRecursion (λ x. x < 2 ^ 32) a
  pub solution : is_solution nat_cmp rests a ≡ true

all-assignments : (P : ℕ → Type 0) (u : List ℕ) (n : ℕ) → AllByRecursion P u → AllByRecursion (λ a. (length a ≡ n) × AllByRecursion P a) (assignments u n)
all-assignments P u zero all = ((refl, tt), tt)
all-assignments P u (suc n) all = each (all-assignments P u n all) u all where
  under : (x : ℕ) → P x → (ts : List (List ℕ)) → AllByRecursion (λ a. (length a ≡ n) × AllByRecursion P a) ts → AllByRecursion (λ a. (length a ≡ suc n) × AllByRecursion P a) (map (λ a. x ∷ a) ts)
  under x p [] rest = tt
  under x p (t ∷ ts) rest = ((ap suc rest.0.0, (p, rest.0.1)), under x p ts rest.1)

  each : AllByRecursion (λ a. (length a ≡ n) × AllByRecursion P a) (assignments u n) → (v : List ℕ) → AllByRecursion P v → AllByRecursion (λ a. (length a ≡ suc n) × AllByRecursion P a) (flat_map (λ x. map (λ a. x ∷ a) (assignments u n)) v)
  each behind [] all = tt
  each behind (x ∷ v) all = all-append (λ a. (length a ≡ suc n) × AllByRecursion P a) (map (λ a. x ∷ a) (assignments u n)) _ (under x all.0 (assignments u n) behind) (each behind v all.1)

all-ids_below : (n : ℕ) → AllByRecursion (λ x. x < n) (ids_below n)
unfolding ids_below
all-ids_below n = from 0 n (omega arith) where
  from : (a m : ℕ) → a + m ≤ n → AllByRecursion (λ x. x < n) (range_with_len a m)
  from a zero le = tt
  from a (suc m) le = (omega (arith, le), from (a + 1) m (omega (arith, le)))

pub all-members : (n : ℕ) (rs : List (Rest nat_cmp)) → AllByRecursion (IsMember n rs) (id_solutions n rs)
all-members n rs = all-weaker _ (IsMember n rs) (id_solutions n rs) (λ a h. record { long = h.0.0; ids = h.0.1; solution = h.1 })
    (all-filtered (λ a. (length a ≡ n) × AllByRecursion (λ x. x < 2 ^ 32) a) (is_solution nat_cmp rs) (assignments (ids_below (2 ^ 32)) n) (all-assignments (λ x. x < 2 ^ 32) (ids_below (2 ^ 32)) n (all-ids_below (2 ^ 32))))

pub all-left : (n : ℕ) (rs : List (Rest nat_cmp)) (fs : List Level) → AllByRecursion (λ a. IsMember n rs a × (agrees fs a ≡ true)) (within (id_solutions n rs) fs)
all-left n rs fs = within-all (IsMember n rs) (id_solutions n rs) fs (all-members n rs)

-- ---- the element of a label

pub at-there : (l : ℕ) (a : List ℕ) → l < length a → (q : ℕ) × (at l a ≡ Some q)
at-there l [] lt = absurd (omega (arith, lt))
at-there zero (x ∷ a) lt = (x, refl)
at-there (suc l) (x ∷ a) lt = at-there l a (omega (arith, lt))

pub below-at : (l q k : ℕ) (a : List ℕ) → at l a ≡ Some q → is_below l k a ≡ nat_lt q k
below-at l q k [] e = absurd (let f : ⊥ = cc in f)
below-at zero q k (x ∷ a) e = let is : x ≡ q = cc in ap (λ y. nat_lt y k) is
below-at (suc l) q k (x ∷ a) e = below-at l q k a e

-- ---- which labels are left

pub any-unfixed : (m : ℕ) (fs : List Level) (ls : List ℕ) → list_any (nat_eq m) (unfixed fs ls) ≡ (list_any (nat_eq m) ls && not (list_any (nat_eq m) (level_labels fs)))
any-unfixed m [] ls = and_true (list_any (nat_eq m) ls) where
  and_true : (b : Bool) → b ≡ (b && true)
  and_true true = refl
  and_true false = refl
any-unfixed m (f ∷ fs) ls =
    any-unfixed m fs (without f.label ls)
    ∙ ap (λ b. b && not (list_any (nat_eq m) (level_labels fs))) (any-filter exact_numbers (λ k. not (nat_eq k f.label)) m ls)
    ∙ both (list_any (nat_eq m) ls) (nat_eq m f.label) (list_any (nat_eq m) (level_labels fs)) where
      both : (a b c : Bool) → ((a && not b) && not c) ≡ (a && not (b || c))
      both true true c = refl
      both true false c = refl
      both false b c = refl

-- ---- patterns of a solution

solution-at : {O : Type 0} (tuples : O → IdSet) (tracks : List (Track O)) (a : List ℕ) (i : ℕ) (t : Track O) → is_solution nat_cmp (rests tuples tracks) a ≡ true → i < length tracks → has (tuples (slice_index_or tracks i t).start.op) (image a (labels_of (slice_index_or tracks i t).start.labels)) ≡ true
solution-at tuples [] a i t e lt = absurd (omega (arith, lt))
solution-at tuples (s ∷ tracks) a zero t e lt = (and_both (has (tuples s.start.op) (image a (labels_of s.start.labels))) (is_solution nat_cmp (rests tuples tracks) a) e).0
solution-at tuples (s ∷ tracks) a (suc i) t e lt = solution-at tuples tracks a i t (and_both (has (tuples s.start.op) (image a (labels_of s.start.labels))) (is_solution nat_cmp (rests tuples tracks) a) e).1 (omega (arith, lt))

module _ {O : Type 0} (depth_of : O → ℕ) (tuples : O → IdSet) (deep : (o : O) → HasDepth (depth_of o) (tuples o)) (n m last : ℕ) (levels : List Level) (tracks : List (Track O)) (are : AreTracks depth_of tuples n m levels tracks) (low : last < m) (before : last ≤ n - 1) where
  -- a solution that has the keys of the levels has at a further label a key that all patterns admit
  pub solution-admits : (a : List ℕ) (l q : ℕ) → is_solution nat_cmp (rests tuples tracks) a ≡ true → agrees (take last levels) a ≡ true → at l a ≡ Some q → AllAdmitAt tuples tracks last l q
  solution-admits a l q solution agreed at_l i t p lt some =
      let left = (are i t lt).left last p low before in
      let x = part_at tracks last i t p in
      part-admits tuples l q x (image-admits l q a at_l (part_set tuples x) (labels_of x.labels) (part-deep depth_of tuples deep x left.part)
      (left.image a agreed ∙ solution-at tuples tracks a i t solution lt)) some

  -- it is a solution of what is left
  pub solution-left : (a : List ℕ) (l q : ℕ) → IsMember n (rests tuples tracks) a → agrees (take last levels) a ≡ true → at l a ≡ Some q → HasSolutionAt tuples n tracks last l q
  solution-left a l q member agreed at_l = record {
    solution = a;
    long = member.long;
    ids = member.ids;
    key = at_l;
    holds = λ i t p lt. ((are i t lt).left last p low before).image a agreed ∙ solution-at tuples tracks a i t member.solution lt;
  }
