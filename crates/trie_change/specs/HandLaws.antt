-- Edges in hand: what they stand for where rows stay, what a row made of them stands for, and that the tables are as before where they are given back.
use Rattle.std.specs.Prelude.{◌≡◌, ℕ, suc, ◌<◌, ◌≤◌, refl, Option, None, Some, option_map}
use Rattle.std.proofs.Common.{sym, ◌∙◌, ap, arith}
use Rattle.std.specs.Ordering.{nat_cmp}
use Rattle.std.specs.Cmp.{nat_cmp_total as total}
use Rattle.std.specs.FinMap as map
use Rattle.std.specs.FinMap.{nat_cmp-IsAntisymmetric as exact}
use Rattle.hypertrie_model.specs.IdSets.{IdSet}
use Rattle.hypertrie_model.specs.Sets.{empty}
use Rattle.hypertrie_model.specs.Slices.{slice}
use Rattle.hypertrie_model.specs.MapLaws.{same_maps}
use Rattle.hypertrie_model.specs.FoldLaws.{sum_over-empty}
use Rattle.edge_map.specs.declared.edge.Edge.{Edge}
use Rattle.edge_map.specs.declared.edge.Edge.TheVariants.{Node as ToRow}
use Rattle.edge_map.specs.Edges.{Edges}
use Rattle.node_table.specs.Table.{Row}
use Rattle.trie_node.specs.declared.node.Node.{Node}
use Rattle.trie_node.specs.Sets.{leads, edges_in, edges_of}
use Rattle.trie_context.specs.declared.tables.Tables.{Tables}
use Rattle.trie_context.specs.Rows.{row_of, node_of, node_set, row_set, set_of}
use Rattle.trie_context.specs.Holds.{holds_of, one_at, at_depth, nothing, RowsStay}
use Rattle.trie_context.specs.Kept.{AreKept, AreMoved}
use Rattle.trie_context.specs.RowLaws.{node_set_same}
use Rattle.trie_context.specs.MoveLaws.{if_same, if_other, same_or_not, at_here, at_same, there_row}
use Rattle.trie_context.specs.StayLaws.{sets_stay, as_before}
use Rattle.trie_context.specs.EdgeLaws.{edge_stays, edge_filled, stands_stay}
use Rattle.trie_context.specs.FitEdges.{set_at, StandsAt}
use Rattle.trie_change.specs.Rooms.{FitsSome, AreSlicesAt}
use Rattle.trie_change.specs.DepthLaws.{slice-empty}

-- an edge to a row leads there once
pub leads_once : (k r : ℕ) → leads (ToRow k) r ≡ one_at k r
leads_once k r = same_or_not r k _ (λ is. if_same k r 1 0 (sym is) ∙ sym (if_same r k 1 0 is)) (λ ne. if_other k r 1 0 (λ e. ne (sym e)) ∙ sym (if_other r k 1 0 ne))

module _ (mixed : ℕ → ℕ → ℕ → ℕ → ℕ) (t u : Tables) (kept : AreKept mixed t) (stay : RowsStay t u) where
  -- an edge still fits, and stands for the same set
  pub fits_stay : (d : ℕ) (o : Option Edge) → FitsSome t d o → FitsSome u d o
  fits_stay d None fits = fits
  fits_stay d (Some e) fits = (edge_stays mixed t u kept stay d e fits).0

  pub set_at_stays : (d : ℕ) (o : Option Edge) → FitsSome t d o → set_at u d o ≡ set_at t d o
  set_at_stays d None fits = refl
  set_at_stays d (Some e) fits = (edge_stays mixed t u kept stay d e fits).1

  pub slices_stay : (d : ℕ) (S : IdSet) (i : ℕ) (m : Edges) → AreSlicesAt t d S i m → AreSlicesAt u d S i m
  slices_stay d S i m slices k = stands_stay mixed t u kept stay d (slice nat_cmp S i k) (map.get m k) (slices k)

  -- a row made of a node whose edges are held stands for the set of the node
  pub row_stands : (d k : ℕ) (node : Node) → node_of u (suc d) k ≡ Some node → ((r : ℕ) → edges_of node r ≤ holds_of t d r) → set_of u (suc d) k ≡ node_set (suc d) (set_of t d) node
  row_stands d k node at held = by (row_of u (suc d) k) at ∙ sym (node_set_same (suc d) (set_of t d) (set_of u d) node below) where
    below : (r : ℕ) → 0 < edges_of node r → set_of t d r ≡ set_of u d r
    below r pos = let row = there_row t d r (let h = held r in omega arith) in sym (sets_stay mixed t u kept stay d r row.0 row.1)

    by : (o : Option (Row Node)) → option_map (λ (row : Row Node). row.node) o ≡ Some node → row_set (node_set (suc d) (set_of u d)) o ≡ node_set (suc d) (set_of u d) node
    by None e = absurd (let f : None ≡ Some node = e in cc)
    by (Some row) e = let same : row.node ≡ node = cc in ap (node_set (suc d) (set_of u d)) same

-- edges in hand are held
pub hand_held : {mixed : ℕ → ℕ → ℕ → ℕ → ℕ} {t u : Tables} (d : ℕ) (n : ℕ → ℕ) → AreMoved mixed t u (at_depth d n) nothing → (r : ℕ) → n r ≤ holds_of u d r
hand_held d n moved r = let h = moved.holds d r in let e = at_here d n r in omega arith

-- edges in hand that are given back leave the tables as they were
pub given_back : (mixed : ℕ → ℕ → ℕ → ℕ → ℕ) (t m u : Tables) → AreKept mixed t → (d : ℕ) (n p : ℕ → ℕ) → AreMoved mixed t m (at_depth d n) nothing → RowsStay t m
    → AreMoved mixed m u nothing (at_depth d p) → RowsStay u m → ((r : ℕ) → p r ≡ n r) → u ≡ t
given_back mixed t m u kept d n p first stay last came same =
    as_before mixed t m u kept last.kept stay came
    (λ e r. omega (arith, first.holds e r, last.holds e r, at_same d p n same e r))
    (λ e. last.reserved e ∙ first.reserved e)
