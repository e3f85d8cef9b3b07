-- The tables of a graph whose root has the only hold are the shape of the graph.
use Rattle.std.specs.Prelude.{◌≡◌, ℕ}
use Rattle.std.proofs.Common.{◌∙◌, arith}
use Rattle.std.specs.Ordering.{nat_cmp}
use Rattle.std.specs.Cmp.{nat_cmp_total as total}
use Rattle.std.specs.Cmp.Lexicographic.{slice_cmp}
use Rattle.std.specs.FinMap.{nat_cmp-IsAntisymmetric as exact}
use Rattle.std.specs.FinSet as set
use Rattle.hypertrie_model.specs.Sets.{empty, single}
use Rattle.hypertrie_model.specs.SetLaws.{len-single}
use Rattle.trie_depth.specs.Tuples.{trip_tuple}
use Rattle.trie_context.specs.declared.root.Root.{Root}
use Rattle.trie_context.specs.declared.root.Root.TheVariants.{Empty, One, Many}
use Rattle.trie_context.specs.declared.tables.Tables.{Tables}
use Rattle.trie_context.specs.Holds.{holds_of, one_at}
use Rattle.trie_context.specs.Kept.{AreKept, AreMoved}
use Rattle.trie_context.specs.MoveLaws.{at_here, at_other}
use Rattle.trie_context.specs.Roots.{root_set, root_hold}
use Rattle.trie_context.specs.Shape.{HasShape}
use Rattle.trie_context.specs.ShapeLaws.{exact_shape, small_shape}

-- the root's hold is the only one
abbrev pub OnlyRootHeld : Tables → Root → Type 0
OnlyRootHeld t root = (d r : ℕ) → holds_of t d r ≡ root_hold root d r

module _ (mixed : ℕ → ℕ → ℕ → ℕ → ℕ) where
  pub root_shape : (t : Tables) → AreKept mixed t → (root : Root) → OnlyRootHeld t root → HasShape t (root_set t root)
  root_shape t kept Empty only = small_shape mixed t kept only (empty nat_cmp) (let none = set.len-empty (slice_cmp nat_cmp) in omega arith)
  root_shape t kept (One triple) only = small_shape mixed t kept only (single nat_cmp (trip_tuple triple)) (let one = len-single total exact (trip_tuple triple) in omega arith)
  root_shape t kept (Many g) only = exact_shape mixed t kept g (record {
    here = λ r. only 3 r ∙ at_here 3 (one_at g) r;
    below = λ r. (only 2 r ∙ at_other 3 (one_at g) 2 r (λ is. omega arith), only 1 r ∙ at_other 3 (one_at g) 1 r (λ is. omega arith));
  })

  -- also after the root's hold was given up for another root's
  pub changed_shape : (t u : Tables) (old new : Root) → AreMoved mixed t u (root_hold new) (root_hold old) → OnlyRootHeld t old → HasShape u (root_set u new)
  changed_shape t u old new moved only = root_shape u moved.kept new (λ d r. omega (arith, moved.holds d r, only d r))
