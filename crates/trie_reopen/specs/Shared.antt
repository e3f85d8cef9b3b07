-- Which rows other edges lead to while a graph is changed, its row of triples taken out.
use Rattle.std.specs.Prelude.{◌≡◌, ℕ, ◌+◌, ◌≤◌, ◌<◌, true, List}
use Rattle.std.specs.Ordering.{nat_cmp}
use Rattle.hypertrie_model.specs.Changes.{after}
use Rattle.hypertrie_model.specs.IdSets.{IdSet}
use Rattle.hypertrie_model.specs.Slices.{slice}
use Rattle.trie_depth.specs.declared.id.Trip.{Trip}
use Rattle.edge_map.specs.Edges.{Edges}
use Rattle.trie_context.specs.declared.tables.Tables.{Tables}
use Rattle.trie_context.specs.Holds.{holds_of}
use Rattle.trie_context.specs.Rows.{set_of}
use Rattle.trie_change.specs.declared.change.Change.{Change}
use Rattle.trie_change.specs.After.{triples_of}
use Rattle.trie_change.specs.Changes.{grows}
use Rattle.trie_change.specs.Extra.{is_shared}
use Rattle.trie_change.specs.Rooms.{AreSlicesAt}

-- the holds of each row of pairs or of triples rose by no more than these
abbrev pub HoldsRiseBy : Tables → Tables → (ℕ → ℕ → ℕ) → Type 0
HoldsRiseBy t u most = (d r : ℕ) → 2 ≤ d → holds_of u d r ≤ holds_of t d r + most d r

-- no row of triples is held, and each row of pairs with two holds is shared by the sets G and H
pub record AreShared (G H : IdSet) (t : Tables) : Type 0 where
  pub none : (r : ℕ) → holds_of t 3 r ≡ 0
  pub pairs : (r : ℕ) → 2 ≤ holds_of t 2 r → is_shared G H (set_of t 2 r) ≡ true

-- the edges are the slices of G at a position, and with the triples behind their keys changed they are those of H
pub record AreTurned (change : Change) (G H : IdSet) (i : ℕ) (t : Tables) (old : Edges) (triples : List Trip) : Type 0 where
  pub position : i < 3
  pub slices : AreSlicesAt t 2 G i old
  pub changed : (k : ℕ) → after (grows change) (slice nat_cmp G i k) (slice nat_cmp (triples_of triples) 0 k) ≡ slice nat_cmp H i k
