-- The Ids of the triples of a list.
use Rattle.std.proofs.Common.{◌≡◌, ◌∙◌, ℕ, ◌+◌, ◌<◌, ◌||◌, Bool, true, false, cond, List, [], ◌∷◌, ◌++◌, length, map, take, get_or, refl, sym, ap}
use Rattle.std.specs.Ordering.{eq_by_cmp, nat_cmp}
use Rattle.std.specs.Cmp.{nat_cmp_total as total}
use Rattle.std.specs.FinMap.{nat_cmp-IsAntisymmetric as exact}
use Rattle.std.specs.List.{list_any, dedup, dedup_from}
use Rattle.std.specs.List.Sorted.{IsStrictlySortedBy}
use Rattle.std.specs.FinSet as set
use Rattle.hypertrie_model.specs.SliceLaws.{any_passes, passes_any}
use Rattle.trie_depth.specs.declared.id.Id.{Id}
use Rattle.trie_depth.specs.declared.id.Trip.{Trip}
use Rattle.trie_depth.specs.Tuples.{trip_tuple}
use Rattle.trie_change.specs.Batches.{set_of_entries}
use Rattle.graph_image.specs.Images.{is_among, IsUsed}
use Rattle.graph_image.specs.ImageLaws.{tuples_total, tuples_exact}
use Rattle.hypertrie_model.specs.SetLaws.{tied-is}
use Rattle.graph_store.specs.Staging.{numbers, ids_of_all, AreDistinct}
use Rattle.graph_store.proofs.NotedLemmas.{take_next}
use Rattle.graph_store.proofs.SortedLemmas.{head_new}
use Rattle.graph_store.proofs.TripOrder.{id_number, id_cmp, ids_ordered}

-- whether one of the triples has the Id
abbrev pub has_id : List Trip → ℕ → Bool
has_id batch id = list_any (λ u. is_among u id) (map trip_tuple batch)

pub used_listed : (batch : List Trip) (id : ℕ) → IsUsed (set_of_entries trip_tuple batch) id → has_id batch id ≡ true
used_listed batch id used = passes_any tuples_exact (λ u. is_among u id) (map trip_tuple batch) used.tuple (sym (set.contains-from_list tuples_total (map trip_tuple batch) used.tuple) ∙ used.there) used.among

pub listed_used : (batch : List Trip) (id : ℕ) → has_id batch id ≡ true → IsUsed (set_of_entries trip_tuple batch) id
listed_used batch id e =
    let p = any_passes tuples_total (λ u. is_among u id) (map trip_tuple batch) e in
    record { tuple = p.member; there = set.contains-from_list tuples_total (map trip_tuple batch) p.member ∙ p.there; among = p.passes }

-- ---- the Ids as they stand there

among_three : (a b c r : Bool) → (a || (b || (c || r))) ≡ ((a || (b || (c || false))) || r)
among_three true b c r = refl
among_three false true c r = refl
among_three false false true r = refl
among_three false false false r = refl

pub all_listed : (batch : List Trip) (id : ℕ) → is_among (numbers (ids_of_all batch)) id ≡ has_id batch id
all_listed [] id = refl
all_listed (t ∷ ts) id =
    let a = eq_by_cmp nat_cmp id t.0.0 in
    let b = eq_by_cmp nat_cmp id t.1.0 in
    let c = eq_by_cmp nat_cmp id t.2.0 in
    among_three a b c (is_among (numbers (ids_of_all ts)) id) ∙ ap (λ r. (a || (b || (c || false))) || r) (all_listed ts id)

append_three : (ids : List Id) (a b c : Id) → ((ids ++ a ∷ []) ++ b ∷ []) ++ c ∷ [] ≡ ids ++ (a ∷ b ∷ c ∷ [])
append_three [] a b c = refl
append_three (x ∷ ids) a b c = ap (λ l. x ∷ l) (append_three ids a b c)

ids-append : (ts us : List Trip) → ids_of_all (ts ++ us) ≡ ids_of_all ts ++ ids_of_all us
ids-append [] us = refl
ids-append (t ∷ ts) us = ap (λ l. t.0 ∷ t.1 ∷ t.2 ∷ l) (ids-append ts us)

-- one triple more
pub ids_next : (batch : List Trip) (i : ℕ) (d : Trip) → i < length batch → (ids : List Id) → ids ≡ ids_of_all (take i batch)
    → ((ids ++ (get_or batch i d).0 ∷ []) ++ (get_or batch i d).1 ∷ []) ++ (get_or batch i d).2 ∷ [] ≡ ids_of_all (take (i + 1) batch)
ids_next batch i d within ids so_far =
    let t = get_or batch i d in
    append_three ids t.0 t.1 t.2
    ∙ ap (λ l. l ++ (t.0 ∷ t.1 ∷ t.2 ∷ [])) so_far
    ∙ sym (ids-append (take i batch) (t ∷ []))
    ∙ ap ids_of_all (take_next batch i d within)

-- ---- each once

abbrev id_ties : Id → Id → Bool
id_ties x y = eq_by_cmp nat_cmp x.0 y.0

twice : (a r : Bool) → (a || r) ≡ (a || (a || r))
twice true r = refl
twice false r = refl

module _ (same : Id → Id → Bool) (ties : (x y : Id) → same x y ≡ id_ties x y) where
  from_among : (k : Id) (ids : List Id) (id : ℕ) → is_among (numbers (dedup_from same k ids)) id ≡ (eq_by_cmp nat_cmp id k.0 || is_among (numbers ids) id)
  from_among k [] id = refl
  from_among k (x ∷ ids) id = by (same x k) refl (from_among k ids id) (from_among x ids id) where
    by : (b : Bool) → same x k ≡ b
        → is_among (numbers (dedup_from same k ids)) id ≡ (eq_by_cmp nat_cmp id k.0 || is_among (numbers ids) id) → is_among (numbers (dedup_from same x ids)) id ≡ (eq_by_cmp nat_cmp id x.0 || is_among (numbers ids) id)
        → is_among (numbers (cond b (dedup_from same k ids) (k ∷ dedup_from same x ids))) id ≡ (eq_by_cmp nat_cmp id k.0 || (eq_by_cmp nat_cmp id x.0 || is_among (numbers ids) id))
    by true e kept next =
        let a = eq_by_cmp nat_cmp id k.0 in
        let one = tied-is exact x.0 k.0 (sym (ties x k) ∙ e) in
        kept ∙ twice a (is_among (numbers ids) id) ∙ ap (λ n. a || (eq_by_cmp nat_cmp id n || is_among (numbers ids) id)) (sym one)
    by false e kept next = ap (λ r. eq_by_cmp nat_cmp id k.0 || r) next

  pub dedup_among : (ids : List Id) (id : ℕ) → is_among (numbers (dedup same ids)) id ≡ is_among (numbers ids) id
  dedup_among [] id = refl
  dedup_among (k ∷ ids) id = from_among k ids id

-- the Ids of a list that rises are distinct
pub distinct : (ids : List Id) → IsStrictlySortedBy id_cmp ids → AreDistinct (numbers ids)
unfolding IsStrictlySortedBy
distinct [] sorted = tt
distinct (id ∷ ids) sorted = (
  sym (set.contains-from_list total (numbers ids) id.0) ∙ head_new id_number total exact id_cmp ids_ordered id ids sorted,
  distinct ids sorted.1,
)
