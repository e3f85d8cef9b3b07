-- The size, the hash and the edges of a changed set of triples, and the root that they make.
use Rattle.std.specs.Prelude.{◌≡◌, ℕ, List, length, bit_xor, option_map, ◌+◌, ◌≤◌, Option, None, Some}
use Rattle.std.proofs.Common.{sym, ◌∙◌, ap, subst, arith}
use Rattle.std.specs.Ordering.{nat_cmp}
use Rattle.std.specs.FinSet as set
use Rattle.hypertrie_model.specs.IdSets.{IdSet}
use Rattle.hypertrie_model.specs.Sets.{empty, HasDepth}
use Rattle.hypertrie_model.specs.Unions.{union_over}
use Rattle.hypertrie_model.specs.Changes.{after, IsChange}
use Rattle.trie_depth.specs.declared.id.Trip.{Trip}
use Rattle.trie_depth.specs.Tuples.{trip_tuple}
use Rattle.edge_map.specs.Edges.{Edges}
use Rattle.node_table.specs.Table.{Row}
use Rattle.trie_node.specs.declared.node.Node.{Node}
use Rattle.trie_node.specs.declared.node.Node.TheVariants.{Full}
use Rattle.trie_node.specs.Sets.{edge_set, triple_set_of, edges_in, set_hash}
use Rattle.trie_node.specs.Forms.{IsTripleEdge, IsFullOfTriples, AreSlices}
use Rattle.trie_context.specs.declared.tables.Tables.{Tables}
use Rattle.trie_context.specs.Rows.{row_of, node_of, node_set, row_set, set_of}
use Rattle.trie_context.specs.Kept.{AreKept}
use Rattle.trie_context.specs.Holds.{at_depth, RowsStay}
use Rattle.trie_context.specs.MoveLaws.{at_none}
use Rattle.trie_change.specs.declared.change.Change.{Change}
use Rattle.trie_change.specs.Batches.{set_of_entries, IsOnce}
use Rattle.trie_change.specs.Changes.{grows, size_after}
use Rattle.trie_context.specs.DepthLaws.{empty_deep, set_deep, first_is}
use Rattle.trie_change.specs.DepthLaws.{after_deep, trip_tuple_deep}
use Rattle.trie_change.specs.FigureLaws.{size_is, hash_is}
use Rattle.trie_change.specs.HandLaws.{slices_stay}
use Rattle.trie_change.specs.Nodes.{AreTripleParts}
use Rattle.trie_change.specs.Rooms.{AreSlicesAt, row_set_at, first_set}

row_deep : {mixed : ℕ → ℕ → ℕ → ℕ → ℕ} (t : Tables) → AreKept mixed t → (o : Option ℕ) → HasDepth 3 (row_set_at t o)
row_deep t kept None = empty_deep 3
row_deep {mixed = mixed} t kept (Some r) = set_deep mixed t kept 3 r

-- the size, the hash and the edges are those of the changed set
module _ {mixed : ℕ → ℕ → ℕ → ℕ → ℕ} {t : Tables} (kept : AreKept mixed t) (change : Change) (o : Option ℕ) (batch : List Trip) (once : IsOnce trip_tuple batch) (may : IsChange (grows change) (row_set_at t o) (set_of_entries trip_tuple batch)) where
  pub are_parts : (u : Tables) (n k s h : ℕ) (a b c : Edges)
      → n ≡ set.len (row_set_at t o)
      → k ≡ set_hash mixed 3 (row_set_at t o)
      → s ≡ size_after change n (length batch)
      → h ≡ bit_xor k (set_hash mixed 3 (set_of_entries trip_tuple batch))
      → AreSlicesAt u 2 (after (grows change) (row_set_at t o) (set_of_entries trip_tuple batch)) 0 a
      → AreSlicesAt u 2 (after (grows change) (row_set_at t o) (set_of_entries trip_tuple batch)) 1 b
      → AreSlicesAt u 2 (after (grows change) (row_set_at t o) (set_of_entries trip_tuple batch)) 2 c
      → AreTripleParts mixed (set_of u 2) (after (grows change) (row_set_at t o) (set_of_entries trip_tuple batch)) s h a b c
  are_parts u n k s h a b c old_sized old_hashed sized hashed first second third = record {
    deep = after_deep 3 (grows change) (row_set_at t o) (set_of_entries trip_tuple batch) (row_deep t kept o) (trip_tuple_deep batch);
    sized = sized ∙ size_is change (row_set_at t o) (set_of_entries trip_tuple batch) may n (length batch) old_sized once;
    hashed = hashed ∙ hash_is mixed 3 (grows change) (row_set_at t o) (set_of_entries trip_tuple batch) may k old_hashed;
    first = first;
    second = second;
    third = third;
  }

module _ {mixed : ℕ → ℕ → ℕ → ℕ → ℕ} (t : Tables) {H : IdSet} {s h : ℕ} {a b c : Edges} (parts : AreTripleParts mixed (set_of t 2) H s h a b c) where
  pub whole_is : first_set t 2 a ≡ H
  whole_is = first_is (IsTripleEdge (set_of t 2)) (set_of t 2) 2 H a parts.deep parts.first

  pub one_whole : s ≡ 1 → set.len (first_set t 2 a) ≡ 1
  one_whole one = ap set.len whole_is ∙ sym parts.sized ∙ one

  pub full_form : 2 ≤ s → IsFullOfTriples (set_hash mixed 3) (set_of t 2) s h a b c
  full_form large = record {
    told = record {
      sized = parts.sized ∙ sym (ap set.len whole_is);
      large = subst (λ n. 2 ≤ n) (parts.sized ∙ sym (ap set.len whole_is)) large;
      hashed = parts.hashed ∙ sym (ap (set_hash mixed 3) whole_is);
    };
    first = subst (λ S. AreSlices (IsTripleEdge (set_of t 2)) (set_of t 2) S 0 a) (sym whole_is) parts.first;
    second = subst (λ S. AreSlices (IsTripleEdge (set_of t 2)) (set_of t 2) S 1 b) (sym whole_is) parts.second;
    third = subst (λ S. AreSlices (IsTripleEdge (set_of t 2)) (set_of t 2) S 2 c) (sym whole_is) parts.third;
  }

  -- the row that the node has later stands for the set
  pub root_is : (u : Tables) → AreKept mixed t → RowsStay t u → (k : ℕ) → node_of u 3 k ≡ Some (Full s h a b c) → set_of u 3 k ≡ H
  root_is u kept stay k there = by (row_of u 3 k) there ∙ first_is (IsTripleEdge (set_of u 2)) (set_of u 2) 2 H a parts.deep (slices_stay mixed t u kept stay 2 H 0 a parts.first) where
    by : (o : Option (Row Node)) → option_map (λ w. w.node) o ≡ Some (Full s h a b c) → row_set (node_set 3 (set_of u 2)) o ≡ union_over a (edge_set (set_of u 2))
    by None e = absurd (let f : None ≡ Some (Full s h a b c) = e in cc)
    by (Some row) e = let is : row.node ≡ Full s h a b c = cc in ap (triple_set_of (set_of u 2)) is
