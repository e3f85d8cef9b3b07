-- How many edges a map of slices has, how many tuples its slices have, and sums over the keys of changes.
use Rattle.std.specs.Prelude.{◌≡◌, ℕ, zero, suc, ◌+◌, ◌<◌, ◌≤◌, ◌||◌, Bool, true, false, cond, List, [], ◌∷◌, ◌++◌, refl, Option, None, Some, is_some}
use Rattle.std.proofs.Common.{sym, ◌∙◌, ap, subst, arith}
use Rattle.std.proofs.lemmas.Cmp.{lists_total}
use Rattle.std.specs.Ordering.{nat_cmp}
use Rattle.std.specs.Cmp.{nat_cmp_total as total}
use Rattle.std.specs.Cmp.Lexicographic.{slice_cmp}
use Rattle.std.specs.FinMap as map
use Rattle.std.specs.FinMap.{nat_cmp-IsAntisymmetric as exact}
use Rattle.std.specs.FinSet as set
use Rattle.std.specs.FinSet.{slice_cmp-IsAntisymmetric}
use native.Mathlib.Decide.{dec_lt}
use Rattle.hypertrie_model.specs.Changes.{after, IsChange}
use Rattle.hypertrie_model.specs.ChangeLaws.{has-after_in, slice-after, slice-change, len-grown}
use Rattle.hypertrie_model.specs.FoldLaws.{sum_over-empty, sum_over-insert, sum_over-remove, sum_over-same, sum_over-has, sum_over-split, part, apart_from}
use Rattle.hypertrie_model.specs.Folds.{sum_over}
use Rattle.hypertrie_model.specs.IdSets.{IdSet}
use Rattle.hypertrie_model.specs.MapLaws.{get-insert_here, get-insert_other, get-remove_here, get-remove_other, map_ind}
use Rattle.hypertrie_model.specs.SetInduction.{set_ind}
use Rattle.hypertrie_model.specs.SetLaws.{same_sets, tied-is, has-single}
use Rattle.hypertrie_model.specs.Sets.{has, empty, single}
use Rattle.hypertrie_model.specs.ShapeLaws.{len-slice_single}
use Rattle.hypertrie_model.specs.SliceLaws.{has-keys, slice-no_key}
use Rattle.hypertrie_model.specs.Slices.{is_at, keys, slice}
use Rattle.hypertrie_model.specs.UnionSizes.{len-union_over}
use Rattle.trie_depth.specs.declared.id.Id.{Id}
use Rattle.edge_map.specs.declared.edge.Edge.{Edge}
use Rattle.edge_map.specs.Edges.{Edges}
use Rattle.edge_map.specs.Entries.{RiseFrom, KeysRise}
use Rattle.trie_node.specs.Sets.{edge_set}
use Rattle.trie_context.specs.declared.tables.Tables.{Tables}
use Rattle.trie_context.specs.EdgeLaws.{edge_filled}
use Rattle.trie_context.specs.FitEdges.{set_at, StandsAt}
use Rattle.trie_context.specs.Rows.{set_of}
use Rattle.trie_change.specs.DepthLaws.{slice-empty}
use Rattle.trie_change.specs.Rooms.{AreSlicesAt, first_set}

-- ---- sums over a map of edges

-- parts that are no more make no more
pub sum_over-less : (f g : ℕ → Edge → ℕ) (m : Edges) → ((k : ℕ) (e : Edge) → map.get m k ≡ Some e → f k e ≤ g k e) → sum_over m f ≤ sum_over m g
sum_over-less f g = map_ind total exact (λ m. ((k : ℕ) (e : Edge) → map.get m k ≡ Some e → f k e ≤ g k e) → sum_over m f ≤ sum_over m g)
    (λ _. omega (arith, sum_over-empty total exact f, sum_over-empty total exact g))
    (λ m k e none ind less.
    let here = less k e (get-insert_here total exact m k e) in
    let rest = ind (λ q w at. less q w (get-insert_other total exact m k e q (apart_from total exact m k q w none at) ∙ at)) in
    omega (arith, sum_over-insert total exact m f k e none, sum_over-insert total exact m g k e none, here, rest))

sum_over-both : (f g : ℕ → Edge → ℕ) (m : Edges) → sum_over m (λ k e. f k e + g k e) ≡ sum_over m f + sum_over m g
sum_over-both f g = map_ind total exact (λ m. sum_over m (λ k e. f k e + g k e) ≡ sum_over m f + sum_over m g)
    (omega (arith, sum_over-empty total exact (λ k e. f k e + g k e), sum_over-empty total exact f, sum_over-empty total exact g))
    (λ m k e none ind. omega (arith, sum_over-insert total exact m (λ k e. f k e + g k e) k e none, sum_over-insert total exact m f k e none, sum_over-insert total exact m g k e none, ind))

sum_ones : (m : Edges) → sum_over m (λ _ _. 1) ≡ map.len m
sum_ones = map_ind total exact (λ m. sum_over m (λ _ _. 1) ≡ map.len m)
    (sum_over-empty total exact (λ _ _. 1) ∙ sym (map.len-empty nat_cmp Edge))
    (λ m k e new ind.
    let more = map.len-insert total m k e ∙ ap (λ o. cond (is_some o) (map.len m) (map.len m + 1)) new in
    omega (arith, sum_over-insert total exact m (λ _ _. 1) k e new))

-- ---- the slices of a set at a position

at_one : (t : List ℕ) (i k q : ℕ) → is_at nat_cmp i k t ≡ true → is_at nat_cmp i q t ≡ true → k ≡ q
at_one [] i k q one other = absurd (let f : false ≡ true = one in let n : ⊥ = cc in n)
at_one (x ∷ t) zero k q one other = tied-is exact k x one ∙ sym (tied-is exact q x other)
at_one (x ∷ t) (suc i) k q one other = at_one t i k q one other

single_is : (t q : List ℕ) → has (single nat_cmp t) q ≡ true → q ≡ t
single_is t q there = tied-is (slice_cmp-IsAntisymmetric exact) q t (sym (has-single total exact t q) ∙ there)

single_key : (t : List ℕ) (i k : ℕ) → 0 < set.len (slice nat_cmp (single nat_cmp t) i k) → is_at nat_cmp i k t ≡ true
single_key t i k some = by (set.contains (keys nat_cmp (single nat_cmp t) i) k) refl where
  by : (b : Bool) → set.contains (keys nat_cmp (single nat_cmp t) i) k ≡ b → is_at nat_cmp i k t ≡ true
  by true e = let key = has-keys total exact (single nat_cmp t) i k e in subst (λ q. is_at nat_cmp i k q ≡ true) (single_is t key.tuple key.there) key.stands
  by false e = absurd (omega (arith, ap set.len (slice-no_key total exact (single nat_cmp t) i k e), set.len-empty (slice_cmp nat_cmp)))

-- one tuple is in one slice
module _ (t : List ℕ) (i : ℕ) where
  abbrev own : ℕ → Edge → ℕ
  own k e = set.len (slice nat_cmp (single nat_cmp t) i k)

  none_else : (m : Edges) (k : ℕ) → 0 < set.len (slice nat_cmp (single nat_cmp t) i k) → sum_over (map.remove m k) own ≤ 0
  none_else m k some = elim (dec_lt 0 (sum_over (map.remove m k) own)) as (λ _. sum_over (map.remove m k) own ≤ 0) [
    | yes p ↦
        let h = sum_over-has total exact own (map.remove m k) p in
        let is = at_one t i h.0 k (single_key t i h.0 h.3) (single_key t i k some) in
        absurd (let f : None ≡ Some h.1 = sym (get-remove_here total exact m k) ∙ ap (map.get (map.remove m k)) (sym is) ∙ h.2 in let n : ⊥ = cc in n)
    | no p ↦ omega arith
  ]

  one_slice : (m : Edges) → sum_over m own ≤ 1
  one_slice m = elim (dec_lt 0 (sum_over m own)) as (λ _. sum_over m own ≤ 1) [
    | yes p ↦
        let h = sum_over-has total exact own m p in
        omega (arith, sum_over-remove total exact m own h.0 h.1 h.2, len-slice_single total exact t i h.0, none_else m h.0 h.3)
    | no p ↦ omega arith
  ]

or_swap : (a b : Bool) → (a || b) ≡ (b || a)
or_swap true true = refl
or_swap true false = refl
or_swap false true = refl
or_swap false false = refl

grown_by_one : (S : IdSet) (t : List ℕ) → set.insert S t ≡ after true S (single nat_cmp t)
grown_by_one S t = same_sets total exact _ _ (λ q.
    set.contains-insert (lists_total total) S t q
    ∙ ap (λ b. b || has S q) (sym (has-single total exact t q))
    ∙ or_swap (has (single nat_cmp t) q) (has S q)
    ∙ sym (has-after_in total exact S (single nat_cmp t) q))

-- the slices at a position have no more tuples than the set
pub slices_len : (m : Edges) (i : ℕ) (H : IdSet) → sum_over m (λ k _. set.len (slice nat_cmp H i k)) ≤ set.len H
slices_len m i = set_ind (lists_total total) (slice_cmp-IsAntisymmetric exact) (λ S. sum_over m (sized S) ≤ set.len S) none more where
  sized : IdSet → ℕ → Edge → ℕ
  sized S k e = set.len (slice nat_cmp S i k)

  none : sum_over m (sized (empty nat_cmp)) ≤ set.len (empty nat_cmp)
  none = elim (dec_lt 0 (sum_over m (sized (empty nat_cmp)))) as (λ _. sum_over m (sized (empty nat_cmp)) ≤ set.len (empty nat_cmp)) [
    | yes p ↦
        let h = sum_over-has total exact (sized (empty nat_cmp)) m p in
        absurd (omega (arith, h.3, ap set.len (slice-empty i h.0), set.len-empty (slice_cmp nat_cmp)))
    | no p ↦ omega arith
  ]

  more : (S : IdSet) (t : List ℕ) → set.contains S t ≡ false → sum_over m (sized S) ≤ set.len S → sum_over m (sized (set.insert S t)) ≤ set.len (set.insert S t)
  more S t new less =
      let size : set.len (set.insert S t) ≡ set.len S + 1 = set.len-insert (lists_total total) S t ∙ ap (λ b. cond b (set.len S) (set.len S + 1)) new in
      let apart : IsChange true S (single nat_cmp t) = λ q there. ap (set.contains S) (single_is t q there) ∙ new in
      let parts : (k : ℕ) (e : Edge) → map.get m k ≡ Some e → sized (set.insert S t) k e ≡ sized S k e + own t i k e = λ k e at.
      ap (λ H. set.len (slice nat_cmp H i k)) (grown_by_one S t)
      ∙ ap set.len (slice-after total exact true S (single nat_cmp t) i k)
      ∙ len-grown total exact (slice nat_cmp S i k) (slice nat_cmp (single nat_cmp t) i k) (slice-change total exact true S (single nat_cmp t) i k apart) in
      omega (arith, sum_over-same total exact (sized (set.insert S t)) (λ k e. sized S k e + own t i k e) m parts, sum_over-both (sized S) (own t i) m, one_slice t i m, size, less)

module _ (t : Tables) (d : ℕ) (H : IdSet) (i : ℕ) (m : Edges) (slices : AreSlicesAt t d H i m) where
  -- each edge stands for a slice
  edge_slice : (k : ℕ) (e : Edge) → map.get m k ≡ Some e → edge_set (set_of t d) e ≡ slice nat_cmp H i k
  edge_slice k e at = let s : StandsAt t d (slice nat_cmp H i k) (Some e) = subst (StandsAt t d (slice nat_cmp H i k)) at (slices k) in s.1

  slice_filled : (k : ℕ) (e : Edge) → map.get m k ≡ Some e → 1 ≤ set.len (slice nat_cmp H i k)
  slice_filled k e at =
      let s : StandsAt t d (slice nat_cmp H i k) (Some e) = subst (StandsAt t d (slice nat_cmp H i k)) at (slices k) in
      elim (dec_lt 0 (set.len (slice nat_cmp H i k))) as (λ _. 1 ≤ set.len (slice nat_cmp H i k)) [
        | yes p ↦ omega arith
        | no p ↦ absurd (edge_filled t d e s.0 (s.1 ∙ set.empty_of_len (slice nat_cmp H i k) (omega arith)))
      ]

  -- no more edges than tuples
  pub edges_len : map.len m ≤ set.len H
  edges_len = omega (arith, sum_ones m, sum_over-less (λ _ _. 1) (λ k _. set.len (slice nat_cmp H i k)) m slice_filled, slices_len m i H)

  -- the tuples behind the edges are no more than those of the set
  pub first_set_len : set.len (first_set t d m) ≤ set.len H
  first_set_len = omega (
    arith,
    len-union_over total exact (edge_set (set_of t d)) m,
    sum_over-same total exact (λ _ e. set.len (edge_set (set_of t d) e)) (λ k _. set.len (slice nat_cmp H i k)) m (λ k e at. ap set.len (edge_slice k e at)),
    slices_len m i H,
  )

-- ---- sums over the keys of changes

abbrev pub sum_at : (ℕ → ℕ) → List (Id × Option Edge) → ℕ
sum_at f [] = 0
sum_at f (c ∷ cs) = f c.0.0 + sum_at f cs

pub sum_at-push : (f : ℕ → ℕ) (cs : List (Id × Option Edge)) (c : Id × Option Edge) → sum_at f (cs ++ c ∷ []) ≡ sum_at f cs + f c.0.0
sum_at-push f [] c = omega arith
sum_at-push f (x ∷ xs) c = omega (arith, sum_at-push f xs c)

sum_at-same : (f g : ℕ → ℕ) (from : ℕ) (cs : List (Id × Option Edge)) → RiseFrom from cs → ((k : ℕ) → from ≤ k → f k ≡ g k) → sum_at f cs ≡ sum_at g cs
sum_at-same f g from [] rise same = refl
sum_at-same f g from (c ∷ cs) rise same = omega (arith, same c.0.0 rise.0, sum_at-same f g (suc c.0.0) cs rise.1 (λ k le. let low = rise.0 in same k (omega arith)))

-- what stands in a map under rising keys is no more than the whole
pub sum_at-within : {X : Type 0} (f : ℕ → X → ℕ) (from : ℕ) (cs : List (Id × Option Edge)) (m : map.FinMap nat_cmp X) → RiseFrom from cs → sum_at (λ k. part f k (map.get m k)) cs ≤ sum_over m f
sum_at-within f from [] m rise = omega arith
sum_at-within f from (c ∷ cs) m rise =
    omega (
      arith,
      sum_over-split total exact m f c.0.0,
      sum_at-within f (suc c.0.0) cs (map.remove m c.0.0) rise.1,
      sum_at-same (λ k. part f k (map.get m k)) (λ k. part f k (map.get (map.remove m c.0.0) k)) (suc c.0.0) cs rise.1
          (λ k le. ap (part f k) (sym (get-remove_other total exact m c.0.0 k (λ is. omega (arith, le, is))))),
    )

-- the tuples behind the edge under a key
abbrev pub old_size : Tables → ℕ → Edges → ℕ → ℕ
old_size t d m k = set.len (set_at t d (map.get m k))

pub old_sizes : (t : Tables) (d : ℕ) (m : Edges) (cs : List (Id × Option Edge)) → KeysRise cs → sum_at (old_size t d m) cs ≤ set.len (first_set t d m)
old_sizes t d m cs rise = omega (
  arith,
  sum_at-same (old_size t d m) (λ k. part sized k (map.get m k)) 0 cs rise (λ k le. by k (map.get m k)),
  sum_at-within sized 0 cs m rise,
  len-union_over total exact (edge_set (set_of t d)) m,
) where
  sized : ℕ → Edge → ℕ
  sized k e = set.len (edge_set (set_of t d) e)

  by : (k : ℕ) (o : Option Edge) → set.len (set_at t d o) ≡ part sized k o
  by k None = set.len-empty (slice_cmp nat_cmp)
  by k (Some e) = refl
