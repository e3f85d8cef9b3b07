-- Sets of one depth: the empty set, one tuple, unions, and the sets of kept rows. A map of the slices at the first position stands for the whole set.
use Rattle.std.specs.Prelude.{◌≡◌, ℕ, zero, suc, Bool, true, false, List, [], ◌∷◌, length, refl, Option, None, Some}
use Rattle.std.proofs.Common.{sym, ◌∙◌, ap, subst, arith}
use Rattle.std.specs.Ordering.{nat_cmp}
use Rattle.std.specs.Cmp.{nat_cmp_total as total}
use Rattle.std.specs.Cmp.Lexicographic.{slice_cmp}
use Rattle.std.specs.FinMap as map
use Rattle.std.specs.FinMap.{nat_cmp-IsAntisymmetric as exact}
use Rattle.std.specs.FinSet as set
use Rattle.std.specs.FinSet.{slice_cmp-IsAntisymmetric}
use Rattle.hypertrie_model.specs.IdSets.{IdSet}
use Rattle.hypertrie_model.specs.Sets.{has, empty, single, HasDepth}
use Rattle.hypertrie_model.specs.SetLaws.{tied-is, has-single}
use Rattle.hypertrie_model.specs.Slices.{slice}
use Rattle.hypertrie_model.specs.SliceLaws.{has-slice}
use Rattle.hypertrie_model.specs.Unions.{union_over, has_under}
use Rattle.hypertrie_model.specs.UnionLaws.{has-union_over, has-union_over_nil, is_union_over}
use Rattle.trie_depth.specs.Tuples.{pair_tuple}
use Rattle.edge_map.specs.declared.edge.Edge.{Edge}
use Rattle.edge_map.specs.declared.edge.Edge.TheVariants.{Key, Node as ToRow}
use Rattle.edge_map.specs.Edges.{Edges}
use Rattle.trie_node.specs.declared.node.Node.{Node}
use Rattle.trie_node.specs.declared.node.Node.TheVariants.{Single, Full}
use Rattle.trie_node.specs.Sets.{edge_set}
use Rattle.trie_node.specs.Forms.{StandsFor, AreSlices, IsTripleEdge}
use Rattle.node_table.specs.Table.{Row}
use Rattle.trie_context.specs.declared.tables.Tables.{Tables}
use Rattle.trie_context.specs.Rows.{row_of, node_set, row_set, set_of}
use Rattle.trie_context.specs.Kept.{IsNode, AreKept}

pub empty_deep : (d : ℕ) → HasDepth d (empty nat_cmp)
empty_deep d t there = let f : false ≡ true = sym (set.contains-empty (slice_cmp nat_cmp) t) ∙ there in absurd (let n : ⊥ = cc in n)

pub single_deep : (t : List ℕ) → HasDepth (length t) (single nat_cmp t)
single_deep t q there = ap length (tied-is (slice_cmp-IsAntisymmetric exact) q t (sym (has-single total exact t q) ∙ there))

pub nil_apart : (d : ℕ) (H : IdSet) → HasDepth (suc d) H → has H [] ≡ false
nil_apart d H deep = by (has H []) refl where
  by : (b : Bool) → has H [] ≡ b → b ≡ false
  by false e = refl
  by true e = absurd (let n : 0 ≡ suc d = deep [] e in omega arith)

-- a union over a map of sets that are one place less deep
pub union_deep : {X : Type 0} (d : ℕ) (m : map.FinMap nat_cmp X) (f : X → IdSet) → ((k : ℕ) (v : X) → map.get m k ≡ Some v → HasDepth d (f v)) → HasDepth (suc d) (union_over m f)
union_deep {X = X} d m f below [] there = let n : false ≡ true = sym (has-union_over_nil total exact m f) ∙ there in absurd (let b : ⊥ = cc in b)
union_deep {X = X} d m f below (k ∷ u) there = by (map.get m k) refl (sym (has-union_over total exact m f k u) ∙ there) where
  by : (o : Option X) → map.get m k ≡ o → has_under f o u ≡ true → length (k ∷ u) ≡ suc d
  by None e is = let n : false ≡ true = is in absurd (let b : ⊥ = cc in b)
  by (Some v) e is = ap suc (below k v e u is)

-- the edges of a map of slices fit
pub slices_fit : (fit : Edge → Type 0) (low : ℕ → IdSet) (H : IdSet) (i : ℕ) (m : Edges) → AreSlices fit low H i m → (k : ℕ) (e : Edge) → map.get m k ≡ Some e → fit e
slices_fit fit low H i m slices k e at = let s : StandsFor fit low (slice nat_cmp H i k) (Some e) = subst (StandsFor fit low (slice nat_cmp H i k)) at (slices k) in s.0

-- a map of the slices at the first position stands for the whole set
pub first_is : (fit : Edge → Type 0) (low : ℕ → IdSet) (d : ℕ) (H : IdSet) (m : Edges) → HasDepth (suc d) H → AreSlices fit low H 0 m → union_over m (edge_set low) ≡ H
first_is fit low d H m deep slices = sym (is_union_over total exact H m (edge_set low) (nil_apart d H deep) (λ k u. sym (has-slice total exact H 0 k u (omega arith)) ∙ under (slice nat_cmp H 0 k) (map.get m k) u (slices k))) where
  under : (S : IdSet) (o : Option Edge) (u : List ℕ) → StandsFor fit low S o → has S u ≡ has_under (edge_set low) o u
  under S None u s = ap (λ H. has H u) s ∙ set.contains-empty (slice_cmp nat_cmp) u
  under S (Some e) u s = ap (λ H. has H u) (sym s.1)

-- rows

module _ (mixed : ℕ → ℕ → ℕ → ℕ → ℕ) where
  pub node_deep : (d : ℕ) (low : ℕ → IdSet) → ((r : ℕ) → HasDepth d (low r)) → (node : Node) → IsNode mixed (suc d) low node → HasDepth (suc d) (node_set (suc d) low node)
  node_deep zero low below (Single p) f = absurd f
  node_deep zero low below (Full s h a b c) f = union_deep 0 a (λ _. single nat_cmp []) (λ k e at. single_deep [])
  node_deep (suc zero) low below (Single p) f = single_deep (pair_tuple p)
  node_deep (suc zero) low below (Full s h a b c) f = union_deep 1 a (edge_set low) (λ k e at. edge e) where
    edge : (e : Edge) → HasDepth 1 (edge_set low e)
    edge (Key x) = single_deep (x.0 ∷ [])
    edge (ToRow n) = below n
  node_deep (suc (suc d)) low below (Single p) f = absurd f
  node_deep (suc (suc d)) low below (Full s h a b c) f = union_deep (suc (suc d)) a (edge_set low) (λ k e at. edge e (slices_fit (IsTripleEdge low) low _ 0 a f.first k e at)) where
    edge : (e : Edge) → IsTripleEdge low e → HasDepth (suc (suc d)) (edge_set low e)
    edge (Key x) fits = absurd fits
    edge (ToRow n) fits = below n

  module _ (t : Tables) (kept : AreKept mixed t) where
    pub set_deep : (d r : ℕ) → HasDepth d (set_of t d r)
    set_deep zero r = empty_deep 0
    set_deep (suc d) r = by (set_deep d) (row_of t (suc d) r) refl where
      by : ((q : ℕ) → HasDepth d (set_of t d q)) → (o : Option (Row Node)) → row_of t (suc d) r ≡ o → HasDepth (suc d) (row_set (node_set (suc d) (set_of t d)) o)
      by below None e = empty_deep (suc d)
      by below (Some row) e = node_deep d (set_of t d) below row.node ((kept d).formed r row e)
