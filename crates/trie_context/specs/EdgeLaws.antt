-- What an edge stands for, and that it stands for the same where rows stay.
use Rattle.std.specs.Prelude.{◌≡◌, ℕ, zero, suc, ◌≤◌, ◌≢◌, refl, Option, None, Some, IsSome}
use Rattle.std.proofs.Common.{sym, ◌∙◌, subst, arith}
use Rattle.std.specs.Ordering.{nat_cmp}
use Rattle.std.specs.Cmp.Lexicographic.{slice_cmp}
use Rattle.std.specs.FinMap as map
use Rattle.std.specs.FinSet as set
use Rattle.hypertrie_model.specs.IdSets.{IdSet}
use Rattle.hypertrie_model.specs.Sets.{empty}
use Rattle.hypertrie_model.specs.Slices.{slice}
use Rattle.edge_map.specs.declared.edge.Edge.{Edge}
use Rattle.edge_map.specs.declared.edge.Edge.TheVariants.{Key, Node as ToRow}
use Rattle.edge_map.specs.Edges.{Edges}
use Rattle.node_table.specs.Table.{Row}
use Rattle.trie_node.specs.declared.node.Node.{Node}
use Rattle.trie_node.specs.Sets.{edge_set}
use Rattle.trie_node.specs.Forms.{AreSlices}
use Rattle.trie_node.specs.FormLaws.{filled_pair, filled_triple, pair_edge, triple_edge}
use Rattle.trie_context.specs.declared.tables.Tables.{Tables}
use Rattle.trie_context.specs.Rows.{rows_at, row_of, node_set, row_set, set_of, LeadsToRow}
use Rattle.trie_context.specs.Holds.{RowsStay}
use Rattle.trie_context.specs.Kept.{AreKept}
use Rattle.trie_context.specs.RowLaws.{row_there, rows_named}
use Rattle.trie_context.specs.StayLaws.{sets_stay}
use Rattle.trie_context.specs.FitEdges.{FitsAt, set_at, StandsAt}

pub stands_is : (t : Tables) (d : ℕ) (S : IdSet) (o : Option Edge) → StandsAt t d S o → set_at t d o ≡ S
stands_is t d S None stands = sym stands
stands_is t d S (Some e) stands = stands.1

pub stands_itself : (t : Tables) (d : ℕ) (e : Edge) → FitsAt t d e → StandsAt t d (set_at t d (Some e)) (Some e)
stands_itself t d e fits = (fits, refl)

pub stands_none : (t : Tables) (d : ℕ) → StandsAt t d (empty nat_cmp) None
stands_none t d = refl

-- a set with members belongs to a row that is there
pub filled_there : (t : Tables) (d r : ℕ) → 1 ≤ set.len (set_of t d r) → IsSome (row_of t d r)
filled_there t zero r filled = absurd (let none = set.len-empty (slice_cmp nat_cmp) in omega arith)
filled_there t (suc d) r filled = by (row_of t (suc d) r) filled where
  by : (o : Option (Row Node)) → 1 ≤ set.len (row_set (node_set (suc d) (set_of t d)) o) → IsSome o
  by None h = absurd (let none = set.len-empty (slice_cmp nat_cmp) in omega arith)
  by (Some row) h = refl

pub edge_there : (t : Tables) (d : ℕ) (e : Edge) → FitsAt t d e → LeadsToRow t d e
edge_there t zero e fits = absurd fits
edge_there t (suc zero) (Key x) fits = tt
edge_there t (suc zero) (ToRow n) fits = filled_there t 1 n (omega arith)
edge_there t (suc (suc d)) (Key x) fits = tt
edge_there t (suc (suc d)) (ToRow n) fits = filled_there t (suc (suc d)) n fits

-- an edge stands for a set with members
pub edge_filled : (t : Tables) (d : ℕ) (e : Edge) → FitsAt t d e → edge_set (set_of t d) e ≢ empty nat_cmp
edge_filled t zero e fits = absurd fits
edge_filled t (suc zero) e fits = filled_pair (set_of t 1) e fits
edge_filled t (suc (suc d)) e fits = filled_triple (set_of t (suc (suc d))) e fits

-- an edge is named by the set that it stands for
pub edge_named : (mixed : ℕ → ℕ → ℕ → ℕ → ℕ) (t : Tables) → AreKept mixed t → (d : ℕ) (e f : Edge) → FitsAt t d e → FitsAt t d f → edge_set (set_of t d) e ≡ edge_set (set_of t d) f → e ≡ f
edge_named mixed t kept zero e f p q is = absurd p
edge_named mixed t kept (suc zero) e f p q is = pair_edge (set_of t 1) (λ n m a b same. rows_named mixed (rows_at t) kept 1 n m (omega arith) (omega arith) same) e f p q is
edge_named mixed t kept (suc (suc d)) e f p q is = triple_edge (set_of t (suc (suc d))) (rows_named mixed (rows_at t) kept (suc (suc d))) e f p q is

module _ (mixed : ℕ → ℕ → ℕ → ℕ → ℕ) (t u : Tables) (kept : AreKept mixed t) (stay : RowsStay t u) where
  row_set_stays : (d n : ℕ) → IsSome (row_of t d n) → set_of u d n ≡ set_of t d n
  row_set_stays d n there = let s = row_there (row_of t d n) there in sets_stay mixed t u kept stay d n s.0 s.1

  -- an edge into a row that stays stands for the same set
  pub edge_set_stays : (d : ℕ) (e : Edge) → LeadsToRow t d e → edge_set (set_of u d) e ≡ edge_set (set_of t d) e
  edge_set_stays d (Key x) there = refl
  edge_set_stays d (ToRow n) there = row_set_stays d n there

  pub edge_stays : (d : ℕ) (e : Edge) → FitsAt t d e → (FitsAt u d e) × (edge_set (set_of u d) e ≡ edge_set (set_of t d) e)
  edge_stays d e fits = (fit d e fits, edge_set_stays d e (edge_there t d e fits)) where
    fit : (d : ℕ) (e : Edge) → FitsAt t d e → FitsAt u d e
    fit zero e fits = fits
    fit (suc zero) (Key x) fits = tt
    fit (suc zero) (ToRow n) fits = subst (λ S. 2 ≤ set.len S) (sym (edge_set_stays 1 (ToRow n) (edge_there t 1 (ToRow n) fits))) fits
    fit (suc (suc d)) (Key x) fits = fits
    fit (suc (suc d)) (ToRow n) fits = subst (λ S. 1 ≤ set.len S) (sym (edge_set_stays (suc (suc d)) (ToRow n) (edge_there t (suc (suc d)) (ToRow n) fits))) fits

  pub stands_stay : (d : ℕ) (S : IdSet) (o : Option Edge) → StandsAt t d S o → StandsAt u d S o
  stands_stay d S None stands = stands
  stands_stay d S (Some e) stands = let s = edge_stays d e stands.0 in (s.0, s.1 ∙ stands.1)

  -- and so do the edges of a map
  pub slices_stay : (d : ℕ) (H : IdSet) (i : ℕ) (m : Edges) → AreSlices (FitsAt t d) (set_of t d) H i m → AreSlices (FitsAt u d) (set_of u d) H i m
  slices_stay d H i m stands k = stands_stay d (slice nat_cmp H i k) (map.get m k) (stands k)
