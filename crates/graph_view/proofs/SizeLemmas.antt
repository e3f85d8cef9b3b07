-- The size of a graph by its root, and the row that the root holds.
use Rattle.std.proofs.Common.{◌≡◌, ◌∙◌, ℕ, IsSome, IfSome, sym, ap, subst}
use Rattle.std.proofs.Math.Logic.{∥∥₁_elim}
use Rattle.std.specs.FinSet as set
use Rattle.hypertrie_model.specs.IdSets.{IdSet}
use Rattle.trie_node.specs.declared.node.Node.{Node}
use Rattle.trie_node.specs.declared.node.Node.TheVariants.{Single, Full}
use Rattle.trie_node.specs.Sets.{set_over, size_of}
use Rattle.trie_node.specs.Forms.{IsTripleNode}
use Rattle.term_dict.specs.Dict.{Terms}
use Rattle.trie_context.specs.declared.tables.Tables.{Tables}
use Rattle.trie_context.specs.Rows.{row_of, row_set, node_set, set_of}
use Rattle.trie_context.specs.RowLaws.{row_there}
use Rattle.trie_context.specs.Kept.{AreKept}
use Rattle.graph_view.specs.Read.{AreRead}
use Rattle.graph_view.specs.ReadLaws.{numbers_prop, kept_known}

node_size : (hash : IdSet → ℕ) (low : ℕ → IdSet) (node : Node) → IsTripleNode hash low node → size_of node ≡ set.len (set_over low node)
node_size hash low (Single p) form = absurd form
node_size hash low (Full s h a b c) form = form.told.sized

-- the node of a row of depth three tells the size of its set
pub size_there : (t : Tables) (terms : Terms) → ∥ AreRead t terms ∥₁ → (r : ℕ) (node : Node) → IsSome (row_of t 3 r) → IfSome (row_of t 3 r) (λ row. row.node ≡ node) → size_of node ≡ set.len (set_of t 3 r)
size_there t terms known r node there is =
    let row = row_there (row_of t 3 r) there in
    let same : row.0.node ≡ node = subst (λ o. IfSome o (λ q. q.node ≡ node)) row.1 is in
    let size = kept_known t terms known (size_of row.0.node ≡ set.len (set_over (set_of t 2) row.0.node)) (numbers_prop (size_of row.0.node) (set.len (set_over (set_of t 2) row.0.node)))
    (λ mixed kept. node_size _ (set_of t 2) row.0.node ((kept 2).formed r row.0 row.1)) in
    ap size_of (sym same) ∙ size ∙ sym (ap (λ o. set.len (row_set (node_set 3 (set_of t 2)) o)) row.1)
