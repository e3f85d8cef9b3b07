-- The hold of a root among those of the tables.
use Rattle.std.specs.Prelude.{◌≡◌, ℕ, ◌≤◌, refl, Option, None, Some, IfSome}
use Rattle.std.proofs.Common.{◌∙◌, subst, sym, arith}
use Rattle.std.specs.Ordering.{nat_cmp}
use Rattle.std.specs.Cmp.{nat_cmp_total as total}
use Rattle.std.specs.Cmp.Lexicographic.{slice_cmp}
use Rattle.std.specs.FinMap.{nat_cmp-IsAntisymmetric as exact}
use Rattle.std.specs.FinSet as set
use Rattle.hypertrie_model.specs.FoldLaws.{sum_over-empty}
use Rattle.hypertrie_model.specs.SetLaws.{len-single}
use Rattle.trie_depth.specs.Tuples.{trip_tuple}
use Rattle.node_table.specs.Table.{Row}
use Rattle.trie_node.specs.declared.node.Node.{Node}
use Rattle.trie_node.specs.Sets.{edges_of}
use Rattle.trie_context.specs.declared.root.Root.{Root}
use Rattle.trie_context.specs.declared.root.Root.TheVariants.{Empty, One, Many}
use Rattle.trie_context.specs.declared.tables.Tables.{Tables}
use Rattle.trie_context.specs.Holds.{count_of, holds_of, one_at}
use Rattle.trie_context.specs.Kept.{AreKept}
use Rattle.trie_context.specs.Roots.{root_set, root_hold, IsHeld}
use Rattle.trie_context.specs.RootShape.{OnlyRootHeld}
use Rattle.trie_context.specs.RowLaws.{counted}
use Rattle.trie_context.specs.Rows.{rows_at, row_of}
use Rattle.trie_context.specs.Shape.{OnlyHeld}
use Rattle.trie_context.specs.MoveLaws.{at_here, at_other, if_same, one_at_most, one_here, one_elsewhere, same_or_not}

-- a root that is held has its hold
pub root_holds : (t : Tables) (root : Root) → IsHeld t root → (d r : ℕ) → root_hold root d r ≤ holds_of t d r
root_holds t Empty h d r = omega arith
root_holds t (One triple) h d r = omega arith
root_holds t (Many k) h d r = same_or_not d 3 _
    (λ is. same_or_not r k _
    (λ same. omega (arith, if_same d 3 (one_at k r) 0 is, one_at_most k r, subst (λ e. 1 ≤ holds_of t e r) (sym is) (subst (λ q. 1 ≤ holds_of t 3 q) (sym same) h)))
    (λ other. omega (arith, if_same d 3 (one_at k r) 0 is, one_elsewhere k r other)))
    (λ ne. omega (arith, at_other 3 (one_at k) d r ne))

pub holds_root : (t : Tables) (root : Root) → ((d r : ℕ) → root_hold root d r ≤ holds_of t d r) → IsHeld t root
holds_root t Empty h = tt
holds_root t (One triple) h = tt
holds_root t (Many k) h = omega (arith, h 3 k, at_here 3 (one_at k) k, one_here k)

-- a root that holds no row has one triple at most
pub few_triples : (t : Tables) (root : Root) → ((row : ℕ) → root ≡ Many row → ⊥) → set.len (root_set t root) ≤ 1
few_triples t Empty none = omega (arith, set.len-empty (slice_cmp nat_cmp))
few_triples t (One triple) none = omega (arith, len-single total exact (trip_tuple triple))
few_triples t (Many row) none = absurd (none row refl)

-- where the root's hold is the only one, so is that on its row, and nothing else leads there
pub only_row : (t : Tables) (row : ℕ) → OnlyRootHeld t (Many row) → OnlyHeld t row
only_row t row only = record {
  here = λ r. only 3 r ∙ at_here 3 (one_at row) r;
  below = λ r. (only 2 r ∙ at_other 3 (one_at row) 2 r (λ is. omega arith), only 1 r ∙ at_other 3 (one_at row) 1 r (λ is. omega arith));
}

pub only_count : (mixed : ℕ → ℕ → ℕ → ℕ → ℕ) (t : Tables) → AreKept mixed t → (row : ℕ) → OnlyRootHeld t (Many row) → count_of (row_of t 3 row) ≡ 1
only_count mixed t kept row only =
    omega (arith, counted mixed (rows_at t) kept 3 row, (only_row t row only).here row, one_here row, sum_over-empty total exact (λ _ (above : Row Node). edges_of above.node row))

pub count_read : (o : Option (Row Node)) (n : ℕ) → IfSome o (λ row. row.count ≡ n) → count_of o ≡ 1 → n ≡ 1
count_read None n read one = absurd (omega arith)
count_read (Some row) n read one = sym read ∙ one
