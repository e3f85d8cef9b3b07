-- The root of a graph, put in the place of another.
use Rattle.std.specs.Prelude.{◌≡◌, ℕ, ◌+◌, ◌≤◌, ◌||◌, Bool, true, false, List, [], ◌∷◌, ◌++◌, length, refl, Some, option_map}
use Rattle.std.proofs.Common.{◌⊎◌, length-append, inl, inr, sym, ◌∙◌, ap, subst, arith}
use Rattle.std.proofs.lemmas.Cmp.{lists_total}
use Rattle.std.proofs.lemmas.List.{map-append}
use Rattle.std.specs.Ordering.{nat_cmp}
use Rattle.std.specs.Cmp.{nat_cmp_total as total}
use Rattle.std.specs.Cmp.Lexicographic.{slice_cmp}
use Rattle.std.specs.FinMap.{nat_cmp-IsAntisymmetric as exact}
use Rattle.std.specs.FinSet as set
use Rattle.hypertrie_model.specs.IdSets.{IdSet}
use Rattle.hypertrie_model.specs.Sets.{has, empty, single}
use Rattle.hypertrie_model.specs.SetLaws.{same_sets, len-single}
use Rattle.hypertrie_model.specs.Listings.{set_of-append}
use Rattle.hypertrie_model.specs.Changes.{after, IsChange}
use Rattle.hypertrie_model.specs.ChangeLaws.{after-empty, len-grown, len-shrunk}
use Rattle.trie_depth.specs.declared.id.Trip.{Trip}
use Rattle.trie_depth.specs.Tuples.{trip_tuple}
use Rattle.node_table.specs.Table.{Row}
use Rattle.trie_node.specs.declared.node.Node.{Node}
use Rattle.trie_context.specs.declared.root.Root.{Root}
use Rattle.trie_context.specs.declared.root.Root.TheVariants.{Empty, One, Many}
use Rattle.trie_context.specs.declared.tables.Tables.{Tables}
use Rattle.trie_context.specs.Holds.{holds_of, one_at, nothing, RowsStay}
use Rattle.trie_context.specs.Kept.{AreKept, AreMoved}
use Rattle.trie_context.specs.Roots.{root_set, root_hold, IsHeld}
use Rattle.trie_context.specs.MoveLaws.{at_here, at_other, if_same, one_at_most, one_here, one_elsewhere, same_or_not, there_row}
use Rattle.trie_context.specs.StayLaws.{sets_stay}
use Rattle.trie_change.specs.Batches.{set_of_entries, IsOnce}
use Rattle.trie_change.specs.Rooms.{HeldStay}

-- sizes of changed sets

-- a changed set has no more tuples than both
pub len-after_le : (g : Bool) (H B : IdSet) → IsChange g H B → set.len (after g H B) ≤ set.len H + set.len B
len-after_le true H B change = let n = len-grown total exact H B change in omega arith
len-after_le false H B change = let n = len-shrunk total exact H B change in omega arith

or_swap : (a b : Bool) → (a || b) ≡ (b || a)
or_swap true true = refl
or_swap true false = refl
or_swap false true = refl
or_swap false false = refl

union_swap : (H K : IdSet) → set.union H K ≡ set.union K H
union_swap H K = same_sets total exact _ _ (λ t. set.contains-union (lists_total total) H K t ∙ or_swap (has H t) (has K t) ∙ sym (set.contains-union (lists_total total) K H t))

-- any change can be made of no tuple, if it puts in
pub new_to_empty : (B : IdSet) → IsChange true (empty nat_cmp) B
new_to_empty B t there = set.contains-empty (slice_cmp nat_cmp) t

-- a batch and one triple more

module _ (batch : List Trip) (triple : Trip) (all : List Trip) (is : all ≡ batch ++ triple ∷ []) where
  set_of_all : set_of_entries trip_tuple all ≡ set.union (set_of_entries trip_tuple batch) (single nat_cmp (trip_tuple triple))
  set_of_all = ap (set_of_entries trip_tuple) is ∙ ap set.from_list (map-append trip_tuple batch (triple ∷ [])) ∙ set_of-append total exact _ _

  -- they are put into no triple at once, as the batch is put into the one
  pub grown_one : after true (empty nat_cmp) (set_of_entries trip_tuple all) ≡ after true (single nat_cmp (trip_tuple triple)) (set_of_entries trip_tuple batch)
  grown_one =
      union_swap (empty nat_cmp) (set_of_entries trip_tuple all)
      ∙ after-empty total exact true (set_of_entries trip_tuple all)
      ∙ set_of_all
      ∙ union_swap (set_of_entries trip_tuple batch) (single nat_cmp (trip_tuple triple))

  pub all_once : IsOnce trip_tuple batch → IsChange true (single nat_cmp (trip_tuple triple)) (set_of_entries trip_tuple batch) → IsOnce trip_tuple all
  all_once once change =
      let n = ap set.len (set_of_all ∙ union_swap (set_of_entries trip_tuple batch) (single nat_cmp (trip_tuple triple))) in
      let m = len-grown total exact (single nat_cmp (trip_tuple triple)) (set_of_entries trip_tuple batch) change in
      let one = len-single total exact (trip_tuple triple) in
      let len : length all ≡ length batch + 1 = ap length is ∙ length-append batch (triple ∷ []) in
      omega (arith, once)

module _ (batch : List Trip) (triple : Trip) where
  -- no triple is taken out of the one
  pub shrunk_none : length batch ≡ 0 → after false (single nat_cmp (trip_tuple triple)) (set_of_entries trip_tuple batch) ≡ single nat_cmp (trip_tuple triple)
  shrunk_none is = by batch is where
    by : (ts : List Trip) → length ts ≡ 0 → after false (single nat_cmp (trip_tuple triple)) (set_of_entries trip_tuple ts) ≡ single nat_cmp (trip_tuple triple)
    by [] is = after-empty total exact false (single nat_cmp (trip_tuple triple))
    by (t ∷ ts) is = absurd (omega arith)

  -- the one triple is taken out
  pub shrunk_all : 1 ≤ length batch → IsOnce trip_tuple batch → IsChange false (single nat_cmp (trip_tuple triple)) (set_of_entries trip_tuple batch) → after false (single nat_cmp (trip_tuple triple)) (set_of_entries trip_tuple batch) ≡ empty nat_cmp
  shrunk_all some once change =
      let n = len-shrunk total exact (single nat_cmp (trip_tuple triple)) (set_of_entries trip_tuple batch) change in
      let one = len-single total exact (trip_tuple triple) in
      set.empty_of_len (after false (single nat_cmp (trip_tuple triple)) (set_of_entries trip_tuple batch)) (omega (arith, once))

-- the new root's hold put in, and then the old one's given up

-- the graph's set is this one now, and what was held beside the old root stays
pub record IsPut (t u : Tables) (old put : Root) (S : IdSet) : Type 0 where
  pub set : root_set u put ≡ S
  pub held : IsHeld u put
  pub stay : HeldStay t u (root_hold old)

root_holds : (t : Tables) (root : Root) → IsHeld t root → (d r : ℕ) → root_hold root d r ≤ holds_of t d r
root_holds t Empty h d r = omega arith
root_holds t (One triple) h d r = omega arith
root_holds t (Many k) h d r = same_or_not d 3 _
    (λ is. same_or_not r k _
    (λ same. omega (arith, if_same d 3 (one_at k r) 0 is, one_at_most k r, subst (λ e. 1 ≤ holds_of t e r) (sym is) (subst (λ q. 1 ≤ holds_of t 3 q) (sym same) h)))
    (λ other. omega (arith, if_same d 3 (one_at k r) 0 is, one_elsewhere k r other)))
    (λ ne. omega (arith, at_other 3 (one_at k) d r ne))

holds_root : (t : Tables) (root : Root) → ((d r : ℕ) → root_hold root d r ≤ holds_of t d r) → IsHeld t root
holds_root t Empty h = tt
holds_root t (One triple) h = tt
holds_root t (Many k) h = omega (arith, h 3 k, at_here 3 (one_at k) k, one_here k)

-- a root of one triple or none has no hold
pub few_hold : (root : Root) → (root ≡ Empty) ⊎ ((triple : Trip) × (root ≡ One triple)) → (d r : ℕ) → root_hold root d r ≡ 0
few_hold root few d r = elim few as (λ _. root_hold root d r ≡ 0) [ inl is ↦ ap (λ q. root_hold q d r) is | inr one ↦ ap (λ q. root_hold q d r) one.1 ]

module _ {mixed : ℕ → ℕ → ℕ → ℕ → ℕ} {t m : Tables} (old new : Root) (held : IsHeld t old) (came : AreMoved mixed t m (root_hold new) nothing) where
  -- the old root is held still before its hold is given up
  pub old_held : IsHeld m old
  old_held = holds_root m old (λ d r. omega (arith, root_holds t old held d r, came.holds d r))

  module _ {u : Tables} (went : AreMoved mixed m u nothing (root_hold old)) (kept : AreKept mixed t) (stay : RowsStay t m) (back : RowsStay u m) where
    -- a hold beside the old root's is left, and each of the new root's
    left : (d r : ℕ) → holds_of u d r + root_hold old d r ≡ holds_of t d r + root_hold new d r
    left d r = omega (arith, came.holds d r, went.holds d r)

    new_held : IsHeld u new
    new_held = holds_root u new (λ d r. omega (arith, left d r, root_holds t old held d r))

    same_node : (x y : Row Node) → Some x ≡ Some y → x.node ≡ y.node
    same_node x y e = let is : x ≡ y = cc in ap (λ (z : Row Node). z.node) is

    -- a row with a hold beside the old root's is there as it was
    beside_stays : HeldStay t u (root_hold old)
    beside_stays d r more =
        let now = there_row u d r (omega (arith, left d r)) in
        let was = there_row t d r (omega arith) in
        let a = stay d r was.0 was.1 in
        let b = back d r now.0 now.1 in
        let same : now.0.node ≡ was.0.node = sym b.2 ∙ same_node b.0 a.0 (sym b.1 ∙ a.1) ∙ a.2 in (
          ap (option_map (λ (w : Row Node). w.node)) now.1 ∙ ap Some same ∙ sym (ap (option_map (λ (w : Row Node). w.node)) was.1),
          sym (sets_stay mixed u m went.kept back d r now.0 now.1) ∙ sets_stay mixed t m kept stay d r was.0 was.1,
        )

    same_set : (root : Root) → IsHeld u root → root_set u root ≡ root_set m root
    same_set Empty h = refl
    same_set (One triple) h = refl
    same_set (Many k) h = let now = there_row u 3 k h in sym (sets_stay mixed u m went.kept back 3 k now.0 now.1)

    pub is_put : (put : Root) (S : IdSet) → put ≡ new → root_set m new ≡ S → IsPut t u old put S
    is_put put S is set = record {
      set = ap (root_set u) is ∙ same_set new new_held ∙ set;
      held = subst (IsHeld u) (sym is) new_held;
      stay = beside_stays;
    }
