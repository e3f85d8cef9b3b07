use Rattle.std.proofs.Common.{◌≡◌, ◌+◌, ◌≤◌, ℕ, arith, refl, sym, subst, ap, ◌∙◌, Some, IfSome, option_map}
use Rattle.node_table.specs.Table.{Row, with_row}
use Rattle.trie_node.specs.declared.node.Node.{Node}
use Rattle.trie_context.specs.declared.tables.Tables.{Tables}
use Rattle.trie_context.specs.Rows.{table_at, put_table, row_of}
use Rattle.trie_context.specs.Holds.{count_of, one_at, at_depth, nothing, CountsRiseBy, RowsStay}
use Rattle.trie_context.specs.MoveLaws.{counts_on}
use Rattle.trie_context.proofs.TableMoves.{added, add_stays, put_row, insert_counts}
use Rattle.trie_context.proofs.ReleaseLemmas.{if_at, some_row}
use Rattle.trie_context.proofs.InternLemmas.{no_row, found_moved, found_held, found_on, found_there, found_stays}
use Rattle.trie_context.proofs.intern.intern_row.Goals as goal

-- the row that was found, with one hold more
pub record Found (t u : Tables) (depth k : ℕ) (node : Node) : Type 0 where
  pub row : Row Node
  pub at : row_of t depth k ≡ Some row
  pub same : row.node ≡ node
  pub is : u ≡ put_table t depth (with_row (table_at t depth) k (record row { count = row.count + 1 }))

found : (t u : Tables) (depth k : ℕ) (node : Node) (s : (row : Row Node) × (row_of t depth k ≡ Some row)) → IfSome (row_of t depth k) (λ row. row.node ≡ node)
    → IfSome (row_of t depth k) (λ r. u ≡ put_table t depth (with_row (table_at t depth) k (record r { count = r.count + 1 }))) → Found t u depth k node
found t u depth k node s same is = record {
  row = s.0;
  at = s.1;
  same = if_at (λ row. row.node ≡ node) (row_of t depth k) s.1 same;
  is = if_at (λ r. u ≡ put_table t depth (with_row (table_at t depth) k (record r { count = r.count + 1 }))) (row_of t depth k) s.1 is;
}

pub release_edges-requires-clause-kept : goal.release_edges-requires-clause-kept
release_edges-requires-clause-kept g c =
    let t = c.args.tables.now in
    let f = found t c.bump.new.self c.args.depth c.in-Some.found c.args.node (some_row t c.args.depth c.in-Some.found c.in-Some.ensures.there) c.in-Some.ensures.equal c.bump.ensures in
    (found_moved g.M.Mix.mixed t c.requires.kept c.args.depth c.requires.low c.requires.high c.in-Some.found f.row f.at c.bump.new.self f.is).kept

pub release_edges-requires-clause-held : goal.release_edges-requires-clause-held
release_edges-requires-clause-held g c =
    let t = c.args.tables.now in
    let f = found t c.bump.new.self c.args.depth c.in-Some.found c.args.node (some_row t c.args.depth c.in-Some.found c.in-Some.ensures.there) c.in-Some.ensures.equal c.bump.ensures in
    found_held g.M.Mix.mixed t c.requires.kept c.args.depth c.requires.low c.requires.high c.in-Some.found f.row f.at c.bump.new.self f.is c.args.node c.requires.held

pub add-requires-clause-new : goal.add-requires-clause-new
add-requires-clause-new g c = no_row g.M.Mix.mixed c.args.tables.now c.requires.kept c.args.depth c.requires.low c.args.node c.hash_of-hash.result c.hash_of-hash.ensures (c.in-None.ensures.none refl)

pub returns-in-Some-clause-moved : goal.returns-in-Some-clause-moved
returns-in-Some-clause-moved g c =
    let t = c.args.tables.now in
    let f = found t c.bump.new.self c.args.depth c.in-Some.found c.args.node (some_row t c.args.depth c.in-Some.found c.in-Some.ensures.there) c.in-Some.ensures.equal c.bump.ensures in
    let r = c.release_edges.ensures in
    found_on g.M.Mix.mixed t c.requires.kept c.args.depth c.requires.low c.requires.high c.in-Some.found f.row f.at c.bump.new.self f.is c.args.node f.same c.release_edges.new.tables r.moved r.rows r.above

pub returns-in-Some-clause-there : goal.returns-in-Some-clause-there
returns-in-Some-clause-there g c =
    let t = c.args.tables.now in
    let f = found t c.bump.new.self c.args.depth c.in-Some.found c.args.node (some_row t c.args.depth c.in-Some.found c.in-Some.ensures.there) c.in-Some.ensures.equal c.bump.ensures in
    let r = c.release_edges.ensures in
    found_there g.M.Mix.mixed t c.requires.kept c.args.depth c.requires.low c.requires.high c.in-Some.found f.row f.at c.bump.new.self f.is c.args.node f.same c.release_edges.new.tables r.moved r.rows r.above

pub returns-in-Some-clause-stay : goal.returns-in-Some-clause-stay
returns-in-Some-clause-stay g c =
    let t = c.args.tables.now in
    let f = found t c.bump.new.self c.args.depth c.in-Some.found c.args.node (some_row t c.args.depth c.in-Some.found c.in-Some.ensures.there) c.in-Some.ensures.equal c.bump.ensures in
    let r = c.release_edges.ensures in
    found_stays g.M.Mix.mixed t c.requires.kept c.args.depth c.requires.low c.requires.high c.in-Some.found f.row f.at c.bump.new.self f.is c.args.node f.same c.release_edges.new.tables r.moved r.rows r.above

pub returns-in-Ok-clause-moved : goal.returns-in-Ok-clause-moved
returns-in-Ok-clause-moved g c =
    let t = c.args.tables.now in
    let new = no_row g.M.Mix.mixed t c.requires.kept c.args.depth c.requires.low c.args.node c.hash_of-hash.result c.hash_of-hash.ensures (c.in-None.ensures.none refl) in
    added g.M.Mix.mixed t c.requires.kept c.args.depth c.requires.low c.requires.high c.in-Ok.row c.args.node c.hash_of-hash.result c.in-Ok.ensures.fresh c.requires.form new c.requires.held c.hash_of-hash.ensures c.add.new.self c.in-Ok.ensures.added

pub returns-in-Ok-clause-there : goal.returns-in-Ok-clause-there
returns-in-Ok-clause-there g c =
    ap (option_map (λ (row : Row Node). row.node)) (ap (λ u. row_of u c.args.depth c.in-Ok.row) c.in-Ok.ensures.added
    ∙ put_row c.args.tables.now c.args.depth c.requires.low c.requires.high c.in-Ok.row (record { node = c.args.node; count = 1; hash = c.hash_of-hash.result }))

pub returns-in-Ok-clause-stay : goal.returns-in-Ok-clause-stay
returns-in-Ok-clause-stay g c =
    subst (λ u. RowsStay c.args.tables.now u) (sym c.in-Ok.ensures.added)
    (add_stays c.args.tables.now c.args.depth c.requires.low c.requires.high c.in-Ok.row (record { node = c.args.node; count = 1; hash = c.hash_of-hash.result }) c.in-Ok.ensures.fresh)

pub returns-in-Some-clause-counts : goal.returns-in-Some-clause-counts
returns-in-Some-clause-counts g c =
    let t = c.args.tables.now in
    let f = found t c.bump.new.self c.args.depth c.in-Some.found c.args.node (some_row t c.args.depth c.in-Some.found c.in-Some.ensures.there) c.in-Some.ensures.equal c.bump.ensures in
    let few : f.row.count + 1 ≤ count_of (row_of t c.args.depth c.in-Some.found) + 1 = let counted : count_of (row_of t c.args.depth c.in-Some.found) ≡ f.row.count = ap count_of f.at in omega arith in
    counts_on t c.bump.new.self c.release_edges.new.tables (at_depth c.args.depth (one_at c.in-Some.found)) nothing (at_depth c.args.depth (one_at c.in-Some.found))
    (subst (λ u. CountsRiseBy t u (at_depth c.args.depth (one_at c.in-Some.found))) (sym f.is) (insert_counts t c.args.depth c.requires.low c.requires.high c.in-Some.found (record f.row { count = f.row.count + 1 }) few))
    c.release_edges.ensures.counts (λ d r. omega arith)

pub returns-in-Ok-clause-counts : goal.returns-in-Ok-clause-counts
returns-in-Ok-clause-counts g c =
    let t = c.args.tables.now in
    subst (λ u. CountsRiseBy t u (at_depth c.args.depth (one_at c.in-Ok.row))) (sym c.in-Ok.ensures.added)
    (insert_counts t c.args.depth c.requires.low c.requires.high c.in-Ok.row (record { node = c.args.node; count = 1; hash = c.hash_of-hash.result }) (omega arith))

pub returns-in-Err-clause-came : goal.returns-in-Err-clause-came
returns-in-Err-clause-came g c = subst (RowsStay c.release_edges-in-Err.new.tables) c.in-Err.ensures.kept c.release_edges-in-Err.ensures.rows
