-- Holds taken on the rows of edges, one edge after another.
use Rattle.std.specs.Prelude.{◌≡◌, ℕ, ◌+◌, ◌≤◌, ◌^◌, List, [], ◌∷◌, length, refl, Some}
use Rattle.std.proofs.Common.{ap, arith}
use Rattle.std.specs.List.{All}
use Rattle.std.specs.FinMap as map
use Rattle.trie_depth.specs.declared.id.Id.{Id}
use Rattle.edge_map.specs.declared.edge.Edge.{Edge}
use Rattle.edge_map.specs.Edges.{Edges}
use Rattle.trie_node.specs.Sets.{leads, edges_in}
use Rattle.trie_context.specs.declared.tables.Tables.{Tables}
use Rattle.trie_context.specs.Rows.{row_of, LeadsToRow}
use Rattle.trie_context.specs.Holds.{count_of, at_depth, nothing, HasRoom, HasRoomForMap, CountsRiseBy, RowsStay}
use Rattle.trie_context.specs.Kept.{AreKept, AreMoved}
use Rattle.trie_context.specs.MoveLaws.{leads_at_most, at_same, at_sum, at_most, at_none, moved_on, moved_as, rows_as_before, rows_stay_on, leads_stay, room_left}
use Rattle.trie_context.proofs.WalkLemmas.{edges_along, next_has, rest_have}

-- the edges of the map but those that are left have their holds
pub record AreRetained (mixed : ℕ → ℕ → ℕ → ℕ → ℕ) (first now : Tables) (d : ℕ) (m : Edges) (left : List (Id × Edge)) : Type 0 where
  pub moved : AreMoved mixed first now (at_depth d (edges_in m)) (at_depth d (edges_along left))
  pub counts : (e r : ℕ) → count_of (row_of now e r) + at_depth d (edges_along left) e r ≤ count_of (row_of first e r) + at_depth d (edges_in m) e r
  pub few : (e r : ℕ) → count_of (row_of now e r) + length left ≤ count_of (row_of first e r) + map.len m
  pub stay : RowsStay first now
  pub there : All (λ (e : Id × Edge). map.get m e.0.0 ≡ Some e.1) left

pub retained_none : (mixed : ℕ → ℕ → ℕ → ℕ → ℕ) (t : Tables) → AreKept mixed t → (d : ℕ) (m : Edges) (all : List (Id × Edge)) → ((r : ℕ) → edges_in m r ≡ edges_along all r) → map.len m ≡ length all
    → All (λ (e : Id × Edge). map.get m e.0.0 ≡ Some e.1) all → AreRetained mixed t t d m all
retained_none mixed t kept d m all same size there =
    let alike : (e r : ℕ) → at_depth d (edges_in m) e r ≡ at_depth d (edges_along all) e r = at_same d (edges_in m) (edges_along all) same in
    record {
      moved = record { kept = kept; holds = λ e r. omega (arith, alike e r); reserved = λ e. refl };
      counts = λ e r. omega (arith, alike e r);
      few = λ e r. omega (arith, size);
      stay = rows_as_before t;
      there = there;
    }

module _ (mixed : ℕ → ℕ → ℕ → ℕ → ℕ) (first t : Tables) (d : ℕ) (m : Edges) (left : List (Id × Edge)) (so_far : AreRetained mixed first t d m left) where
  -- at the end of the walk
  module _ (none : left ≡ []) where
    rest_none : (e r : ℕ) → at_depth d (edges_along left) e r ≡ 0
    rest_none = at_none d (edges_along left) (λ r. ap (λ es. edges_along es r) none)

    pub retained_moved : AreMoved mixed first t (at_depth d (edges_in m)) nothing
    retained_moved = moved_as so_far.moved (at_depth d (edges_in m)) nothing (λ e r. omega (arith, rest_none e r))

    pub retained_counts : CountsRiseBy first t (at_depth d (edges_in m))
    retained_counts e r = omega (arith, so_far.counts e r, rest_none e r)

  pub retained_few : map.len m ≤ 2 ^ 32 → CountsRiseBy first t (λ e r. 2 ^ 32)
  retained_few low e r = omega (arith, so_far.few e r, low)

  -- the next edge
  module _ (entry : Id × Edge) (rest : List (Id × Edge)) (next : left ≡ entry ∷ rest) where
    -- room is left for it
    pub retained_room : HasRoomForMap first → map.len m ≤ 2 ^ 32 → HasRoom t
    retained_room room low = room_left t (λ e r. let some = ap length next in omega (arith, so_far.few e r, room e r, low, some))

    pub next_there : ((k : ℕ) (e : Edge) → map.get m k ≡ Some e → LeadsToRow first d e) → LeadsToRow t d entry.1
    next_there there = leads_stay first t so_far.stay d entry.1 (there entry.0.0 entry.1 (next_has (λ (e : Id × Edge). map.get m e.0.0 ≡ Some e.1) left rest entry next so_far.there))

    one_edge : (e r : ℕ) → at_depth d (edges_along left) e r ≡ at_depth d (leads entry.1) e r + at_depth d (edges_along rest) e r
    one_edge = at_sum d (edges_along left) (leads entry.1) (edges_along rest) (λ r. ap (λ es. edges_along es r) next)

    pub retained_next : (u : Tables) → AreMoved mixed t u (at_depth d (leads entry.1)) nothing → CountsRiseBy t u (at_depth d (leads entry.1)) → RowsStay t u → AreRetained mixed first u d m rest
    retained_next u moved counts stay =
        let one = ap length next in
        record {
          moved = moved_on so_far.moved moved (at_depth d (edges_in m)) (at_depth d (edges_along rest)) (λ e r. omega (arith, one_edge e r));
          counts = λ e r. omega (arith, so_far.counts e r, counts e r, one_edge e r);
          few = λ e r. omega (arith, so_far.few e r, counts e r, at_most d (leads entry.1) 1 (leads_at_most entry.1) e r, one);
          stay = rows_stay_on first t u so_far.stay stay;
          there = rest_have (λ (e : Id × Edge). map.get m e.0.0 ≡ Some e.1) left rest entry next so_far.there;
        }
