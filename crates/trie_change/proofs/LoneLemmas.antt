-- One entry put in where there was none.
use Rattle.std.specs.Prelude.{◌≡◌, ℕ, ◌≤◌, ◌||◌, true, List, [], ◌∷◌, length, refl, Option, None, Some}
use Rattle.std.proofs.Common.{sym, ◌∙◌, ap, subst, arith}
use Rattle.std.proofs.lemmas.Cmp.{lists_total}
use Rattle.std.specs.List.{slice_index_or}
use Rattle.std.specs.Ordering.{nat_cmp}
use Rattle.std.specs.Cmp.{nat_cmp_total as total}
use Rattle.std.specs.Cmp.Lexicographic.{slice_cmp}
use Rattle.std.specs.FinMap.{nat_cmp-IsAntisymmetric as exact}
use Rattle.std.specs.FinSet as set
use Rattle.hypertrie_model.specs.IdSets.{IdSet}
use Rattle.hypertrie_model.specs.Sets.{empty, single, has}
use Rattle.hypertrie_model.specs.SetLaws.{same_sets, len-single}
use Rattle.hypertrie_model.specs.Changes.{after}
use Rattle.trie_depth.specs.declared.id.Pair.{Pair}
use Rattle.trie_depth.specs.Tuples.{pair_tuple}
use Rattle.edge_map.specs.declared.edge.Edge.{Edge}
use Rattle.edge_map.specs.declared.edge.Edge.TheVariants.{Node as ToRow}
use Rattle.trie_node.specs.declared.node.Node.{Node}
use Rattle.trie_node.specs.declared.node.Node.TheVariants.{Single}
use Rattle.trie_node.specs.Sets.{edges_of}
use Rattle.trie_context.specs.declared.tables.Tables.{Tables}
use Rattle.trie_context.specs.Rows.{node_of, node_set, set_of}
use Rattle.trie_context.specs.FitEdges.{set_at, StandsAt}
use Rattle.trie_context.specs.Holds.{at_depth, nothing, RowsStay}
use Rattle.trie_context.specs.Kept.{AreKept, AreMoved}
use Rattle.trie_context.specs.MoveLaws.{at_none, rows_as_before}
use Rattle.trie_context.specs.NodeLaws.{node_set_is}
use Rattle.trie_context.specs.StayLaws.{as_before}
use Rattle.trie_change.specs.declared.change.Change.{Change}
use Rattle.trie_change.specs.declared.change.Change.TheVariants.{Grow}
use Rattle.trie_change.specs.Batches.{set_of_entries}
use Rattle.trie_change.specs.Changes.{grows}

lone_list : {E : Type 0} (es : List E) (d : E) → length es ≡ 1 → es ≡ slice_index_or es 0 d ∷ []
lone_list [] d one = absurd (omega arith)
lone_list (e ∷ []) d one = refl
lone_list (e ∷ f ∷ es) d one = absurd (omega arith)

put_in_none : (S : IdSet) → S ≡ after true (empty nat_cmp) S
put_in_none S = same_sets total exact _ _ (λ q. sym (set.contains-union (lists_total total) (empty nat_cmp) S q ∙ ap (λ b. b || has S q) (set.contains-empty (slice_cmp nat_cmp) q)))

pub lone_after : {E : Type 0} (tuple : E → List ℕ) (change : Change) (old : Option Edge) (es : List E) (d : E) → change ≡ Grow → old ≡ None → length es ≡ 1 → (t : Tables) (depth : ℕ)
    → single nat_cmp (tuple (slice_index_or es 0 d)) ≡ after (grows change) (set_at t depth old) (set_of_entries tuple es)
lone_after tuple change old es d grown none one t depth =
    put_in_none (single nat_cmp (tuple (slice_index_or es 0 d)))
    ∙ (λ j. after (grows (sym grown j)) (set_at t depth (sym none j)) (set_of_entries tuple (sym (lone_list es d one) j)))

-- a pair has no edges to give back
pub lone_given : (mixed : ℕ → ℕ → ℕ → ℕ → ℕ) (t u : Tables) → AreKept mixed t → (node : Node) (p : Pair) → node ≡ Single p → AreMoved mixed t u nothing (at_depth 1 (edges_of node)) → RowsStay u t → u ≡ t
lone_given mixed t u kept node p is given came =
    as_before mixed t t u kept given.kept (rows_as_before t) came (λ d r. omega (arith, given.holds d r, at_none 1 (edges_of node) (λ q. ap (λ n. edges_of n q) is) d r)) given.reserved

-- the row of a pair stands for it
pub lone_stands : (u : Tables) (k : ℕ) (node : Node) → node_of u 2 k ≡ Some node → (p : Pair) → node ≡ Single p → (e : Edge) → e ≡ ToRow k → StandsAt u 2 (single nat_cmp (pair_tuple p)) (Some e)
lone_stands u k node at p is e to =
    let stands : set_of u 2 k ≡ single nat_cmp (pair_tuple p) = node_set_is u 1 k node at ∙ ap (node_set 2 (set_of u 1)) is in
    subst (λ f. StandsAt u 2 (single nat_cmp (pair_tuple p)) (Some f)) (sym to)
    (subst (λ S. 1 ≤ set.len S) (sym stands) (let one = len-single total exact (pair_tuple p) in omega arith), stands)
