-- Sets of one depth: those of edges, of batches, and of changed sets.
use Rattle.std.specs.Prelude.{◌≡◌, ℕ, zero, suc, not, Bool, true, false, List, [], ◌∷◌, length, map as each, refl, Option, None, Some}
use Rattle.std.proofs.Common.{sym, ◌∙◌, ap, arith}
use Rattle.std.specs.List.{list_any}
use Rattle.std.specs.Ordering.{nat_cmp, eq_by_cmp}
use Rattle.std.specs.Cmp.{nat_cmp_total as total}
use Rattle.std.specs.Cmp.Lexicographic.{slice_cmp}
use Rattle.std.specs.FinMap.{nat_cmp-IsAntisymmetric as exact}
use Rattle.std.specs.FinSet as set
use Rattle.std.specs.FinSet.{slice_cmp-IsAntisymmetric}
use native.Mathlib.Decide.{dec_le}
use Rattle.hypertrie_model.specs.IdSets.{IdSet}
use Rattle.hypertrie_model.specs.Sets.{has, empty, HasDepth}
use Rattle.hypertrie_model.specs.SetLaws.{same_sets, or_cases, and_both, tied-is}
use Rattle.hypertrie_model.specs.Slices.{slice}
use Rattle.hypertrie_model.specs.SliceLaws.{has-slice, has-slice_short}
use Rattle.hypertrie_model.specs.Listings.{has-set_of}
use Rattle.hypertrie_model.specs.Changes.{after}
use Rattle.hypertrie_model.specs.ChangeLaws.{has-after_in, has-after_out}
use Rattle.trie_depth.specs.declared.id.Pair.{Pair}
use Rattle.trie_depth.specs.declared.id.Trip.{Trip}
use Rattle.trie_depth.specs.Tuples.{pair_tuple, trip_tuple}
use Rattle.edge_map.specs.declared.edge.Edge.{Edge}
use Rattle.edge_map.specs.declared.edge.Edge.TheVariants.{Key, Node as ToRow}
use Rattle.trie_context.specs.declared.tables.Tables.{Tables}
use Rattle.trie_context.specs.Kept.{AreKept}
use Rattle.trie_context.specs.FitEdges.{set_at}
use Rattle.trie_context.specs.DepthLaws.{empty_deep, single_deep, set_deep}
use Rattle.trie_change.specs.Batches.{set_of_entries, pair_rest, trip_rest}
use Rattle.trie_change.specs.Rooms.{FitsSome}

-- no tuple has slices
pub slice-empty : (i k : ℕ) → slice nat_cmp (empty nat_cmp) i k ≡ empty nat_cmp
slice-empty i k = same_sets total exact _ _ (λ u. elim (dec_le i (length u)) as (λ _. has (slice nat_cmp (empty nat_cmp) i k) u ≡ has (empty nat_cmp) u) [
  | yes le ↦ has-slice total exact (empty nat_cmp) i k u le ∙ set.contains-empty (slice_cmp nat_cmp) _ ∙ sym (set.contains-empty (slice_cmp nat_cmp) u)
  | no gt ↦ has-slice_short total exact (empty nat_cmp) i k u (omega arith) ∙ sym (set.contains-empty (slice_cmp nat_cmp) u)
])

-- edges that fit

module _ (mixed : ℕ → ℕ → ℕ → ℕ → ℕ) (t : Tables) (kept : AreKept mixed t) where
  pub edge_deep : (d : ℕ) (o : Option Edge) → FitsSome t d o → HasDepth d (set_at t d o)
  edge_deep d None fits = empty_deep d
  edge_deep zero (Some e) fits = absurd fits
  edge_deep (suc zero) (Some (Key x)) fits = single_deep (x.0 ∷ [])
  edge_deep (suc zero) (Some (ToRow n)) fits = set_deep mixed t kept 1 n
  edge_deep (suc (suc d)) (Some (Key x)) fits = absurd fits
  edge_deep (suc (suc d)) (Some (ToRow n)) fits = set_deep mixed t kept (suc (suc d)) n

-- changed sets

pub after_deep : (d : ℕ) (g : Bool) (H B : IdSet) → HasDepth d H → HasDepth d B → HasDepth d (after g H B)
after_deep d true H B deep other t there = or_cases (has H t) (has B t) (sym (has-after_in total exact H B t) ∙ there) _ (deep t) (other t)
after_deep d false H B deep other t there = deep t (and_both (has H t) (not (has B t)) (sym (has-after_out total exact H B t) ∙ there)).0

-- batches

pub entries_deep : {E : Type 0} (d : ℕ) (tuple : E → List ℕ) → ((e : E) → length (tuple e) ≡ d) → (es : List E) → HasDepth d (set_of_entries tuple es)
entries_deep {E = E} d tuple long es t there = by es (sym (has-set_of total exact (each tuple es) t) ∙ there) where
  by : (es : List E) → list_any (eq_by_cmp (slice_cmp nat_cmp) t) (each tuple es) ≡ true → length t ≡ d
  by [] is = let n : false ≡ true = is in absurd (let b : ⊥ = cc in b)
  by (e ∷ es) is = or_cases (eq_by_cmp (slice_cmp nat_cmp) t (tuple e)) (list_any (eq_by_cmp (slice_cmp nat_cmp) t) (each tuple es)) is _
      (λ here. ap length (tied-is (slice_cmp-IsAntisymmetric exact) t (tuple e) here) ∙ long e)
      (λ rest. by es rest)

pub pair_rest_deep : (run : List Pair) → HasDepth 1 (set_of_entries pair_rest run)
pair_rest_deep run = entries_deep 1 pair_rest (λ e. refl) run

pub trip_rest_deep : (run : List Trip) → HasDepth 2 (set_of_entries trip_rest run)
trip_rest_deep run = entries_deep 2 trip_rest (λ e. refl) run

pub pair_tuple_deep : (pairs : List Pair) → HasDepth 2 (set_of_entries pair_tuple pairs)
pair_tuple_deep pairs = entries_deep 2 pair_tuple (λ e. refl) pairs

pub trip_tuple_deep : (batch : List Trip) → HasDepth 3 (set_of_entries trip_tuple batch)
trip_tuple_deep batch = entries_deep 3 trip_tuple (λ e. refl) batch
