use Rattle.std.proofs.Common.{◌≡◌, ◌-◌, ◌≤◌, ℕ, arith, rules, refl, sym, subst, ap, ◌∙◌, Some, IfSome, is_some}
use Rattle.node_table.specs.Table.{Row, with_row, without_row}
use Rattle.trie_node.specs.declared.node.Node.{Node}
use Rattle.trie_node.specs.Sets.{edges_of}
use Rattle.trie_context.specs.declared.tables.Tables.{Tables}
use Rattle.trie_context.specs.Rows.{table_at, put_table, row_of}
use Rattle.trie_context.specs.Holds.{count_of, at_depth, holds_of, nothing, CountsRiseBy, RowsStay}
use Rattle.trie_context.specs.MoveLaws.{at_none, counts_on, moved_none, no_holds, rows_as_before, rows_stay_on, there_row}
use Rattle.trie_context.proofs.TableMoves.{beside_put, lowered, lower_counts, drop_counts, count_came}
use Rattle.trie_context.proofs.ReleaseLemmas.{if_at, edge_held, edge_low, walk_begins, walk_ends, walk_held, walk_on, row_dropped, dropped_edges, dropped_on, dropped_rows}
use Rattle.trie_context.proofs.WalkLemmas.{walked_edges}
use Rattle.trie_context.proofs.release.+release.Goals as goal

pub release_edges-returns-then-depth-eq0-clause-moved : goal.release_edges-returns-then-depth-eq0-clause-moved
release_edges-returns-then-depth-eq0-clause-moved g t c =
    moved_none g.M.Mix.mixed c.args.tables.now c.requires.kept (at_depth c.args.depth (edges_of c.args.node.now))
    (at_none c.args.depth (edges_of c.args.node.now) (λ r. let h = subst (λ d. edges_of c.args.node.now r ≤ holds_of c.args.tables.now d r) c.if-depth-eq0.true (c.requires.held r) in let n = no_holds c.args.tables.now r in omega arith))

pub release_map-loop-edge-init : goal.release_map-loop-edge-init
release_map-loop-edge-init g t c =
    let m = c.args.edges.now in (
      walk_begins g.M.Mix.mixed c.args.tables.now c.requires.kept c.args.depth m c.walk-walk.result (walked_edges m c.walk-walk.result c.walk-walk.ensures.entries),
      rows_as_before c.args.tables.now,
      λ d lt. refl,
      λ d r. omega arith,
    )

pub release_map-release_edge-requires : goal.release_map-release_edge-requires
release_map-release_edge-requires g t c =
    let inv = c.loop-edge.invariant.0 in
    let held = walk_held g.M.Mix.mixed c.args.tables.now c.loop-edge.tables c.args.depth c.args.edges.now c.loop-edge.walk inv _ c.next.new.self c.in-Some.ensures.next c.requires.held in
    λ κs within. (search rules, (search rules, (inv.kept, (c.requires.high, held))))

pub release_map-loop-edge-preserved : goal.release_map-loop-edge-preserved
release_map-loop-edge-preserved g t c = (
  walk_on g.M.Mix.mixed c.args.tables.now c.loop-edge.tables c.args.depth c.args.edges.now c.loop-edge.walk c.loop-edge.invariant.0 _ c.next.new.self c.in-Some.ensures.next c.release_edge.new.tables c.release_edge.ensures.moved,
  rows_stay_on c.release_edge.new.tables c.loop-edge.tables c.args.tables.now c.release_edge.ensures.rows c.loop-edge.invariant.1,
  λ d lt. c.release_edge.ensures.above d lt ∙ c.loop-edge.invariant.2 d lt,
  counts_on c.args.tables.now c.loop-edge.tables c.release_edge.new.tables nothing nothing nothing c.loop-edge.invariant.3 c.release_edge.ensures.counts (λ d r. omega arith),
)

pub release_map-returns-clause-moved : goal.release_map-returns-clause-moved
release_map-returns-clause-moved g t c =
    walk_ends g.M.Mix.mixed c.args.tables.now c.loop-edge.tables c.args.depth c.args.edges.now c.loop-edge.walk c.loop-edge.invariant.0 (c.next.ensures.end (ap is_some c.in_default.is))

pub release_edge-release_row-requires : goal.release_edge-release_row-requires
release_edge-release_row-requires g t c =
    let low = edge_low c.args.tables.now c.args.depth c.args.edge c.in-Node.row c.in-Node.is c.requires.held in
    let held = edge_held c.args.tables.now c.args.depth c.args.edge c.in-Node.row c.in-Node.is c.requires.held in
    λ κs within. (search rules, (search rules, (c.requires.kept, (low, (c.requires.high, held)))))

-- the row that lost its last hold
last_one : (t : Tables) (d i n : ℕ) → IfSome (row_of t d i) (λ r. r.count ≡ n) → n ≤ 1 → (row : Row Node) → row_of t d i ≡ Some row → row.count ≤ 1
last_one t d i n counted few row at = let c = if_at (λ r. r.count ≡ n) (row_of t d i) at counted in omega arith

pub release_row-release_edges-requires : goal.release_row-release_edges-requires
release_row-release_edges-requires g t c =
    let tables = c.args.tables.now in
    let few = last_one tables c.args.depth c.args.row c.count.result c.count.ensures c.if-count-gt-LAST.false in
    let moved = row_dropped g.M.Mix.mixed tables c.requires.kept c.args.depth c.requires.low c.requires.high c.args.row c.requires.held few c.remove-node.result c.remove-node.ensures.node c.remove-node.new.self c.remove-node.ensures.gone in
    let held = dropped_edges g.M.Mix.mixed tables c.requires.kept c.args.depth c.requires.low c.requires.high c.args.row c.requires.held few c.remove-node.result c.remove-node.ensures.node c.remove-node.new.self c.remove-node.ensures.gone in
    let high : c.args.depth - 1 ≤ 3 = let h = c.requires.high in omega arith in
    λ κs within. (search rules, (search rules, (moved.kept, (high, held))))

pub release_row-returns-then-count-gt-LAST-clause-moved : goal.release_row-returns-then-count-gt-LAST-clause-moved
release_row-returns-then-count-gt-LAST-clause-moved g t c =
    let tables = c.args.tables.now in
    let at = row_of tables c.args.depth c.args.row in
    let s = there_row tables c.args.depth c.args.row c.requires.held in
    let counted : s.0.count ≡ c.count.result = if_at (λ r. r.count ≡ c.count.result) at s.1 c.count.ensures in
    let more = c.if-count-gt-LAST.true in
    lowered g.M.Mix.mixed tables c.requires.kept c.args.depth c.requires.low c.requires.high c.args.row s.0 s.1 c.requires.held (omega arith) c.lower.new.self
    (if_at (λ r. c.lower.new.self ≡ put_table tables c.args.depth (with_row (table_at tables c.args.depth) c.args.row (record r { count = r.count - 1 }))) at s.1 c.lower.ensures)

pub release_row-returns-then-count-gt-LAST-clause-rows : goal.release_row-returns-then-count-gt-LAST-clause-rows
release_row-returns-then-count-gt-LAST-clause-rows g t c =
    let tables = c.args.tables.now in
    let at = row_of tables c.args.depth c.args.row in
    let s = there_row tables c.args.depth c.args.row c.requires.held in
    subst (λ u. RowsStay u tables) (sym (if_at (λ r. c.lower.new.self ≡ put_table tables c.args.depth (with_row (table_at tables c.args.depth) c.args.row (record r { count = r.count - 1 }))) at s.1 c.lower.ensures))
    (count_came tables c.args.depth c.requires.low c.requires.high c.args.row (s.0.count - 1) s.0 s.1)

pub release_row-returns-else-count-gt-LAST-clause-moved : goal.release_row-returns-else-count-gt-LAST-clause-moved
release_row-returns-else-count-gt-LAST-clause-moved g t c =
    let tables = c.args.tables.now in
    let few = last_one tables c.args.depth c.args.row c.count.result c.count.ensures c.if-count-gt-LAST.false in
    dropped_on g.M.Mix.mixed tables c.requires.kept c.args.depth c.requires.low c.requires.high c.args.row c.requires.held few c.remove-node.result c.remove-node.ensures.node c.remove-node.new.self c.remove-node.ensures.gone
    c.release_edges.new.tables c.release_edges.ensures.moved

pub release_row-returns-else-count-gt-LAST-clause-rows : goal.release_row-returns-else-count-gt-LAST-clause-rows
release_row-returns-else-count-gt-LAST-clause-rows g t c =
    let tables = c.args.tables.now in
    let few = last_one tables c.args.depth c.args.row c.count.result c.count.ensures c.if-count-gt-LAST.false in
    dropped_rows g.M.Mix.mixed tables c.requires.kept c.args.depth c.requires.low c.requires.high c.args.row c.requires.held few c.remove-node.result c.remove-node.ensures.node c.remove-node.new.self c.remove-node.ensures.gone
    c.release_edges.new.tables c.release_edges.ensures.rows

pub release_map-returns-clause-counts : goal.release_map-returns-clause-counts
release_map-returns-clause-counts g t c = c.loop-edge.invariant.3

pub release_row-returns-then-count-gt-LAST-clause-counts : goal.release_row-returns-then-count-gt-LAST-clause-counts
release_row-returns-then-count-gt-LAST-clause-counts g t c =
    let tables = c.args.tables.now in
    let at = row_of tables c.args.depth c.args.row in
    let s = there_row tables c.args.depth c.args.row c.requires.held in
    let few : s.0.count - 1 ≤ count_of at = let counted : count_of at ≡ s.0.count = ap count_of s.1 in omega arith in
    subst (λ u. CountsRiseBy tables u nothing) (sym (if_at (λ r. c.lower.new.self ≡ put_table tables c.args.depth (with_row (table_at tables c.args.depth) c.args.row (record r { count = r.count - 1 }))) at s.1 c.lower.ensures))
    (lower_counts tables c.args.depth c.requires.low c.requires.high c.args.row (record s.0 { count = s.0.count - 1 }) few)

pub release_row-returns-else-count-gt-LAST-clause-counts : goal.release_row-returns-else-count-gt-LAST-clause-counts
release_row-returns-else-count-gt-LAST-clause-counts g t c =
    let tables = c.args.tables.now in
    counts_on tables c.remove-node.new.self c.release_edges.new.tables nothing nothing nothing
    (subst (λ u. CountsRiseBy tables u nothing) (sym c.remove-node.ensures.gone) (drop_counts tables c.args.depth c.requires.low c.requires.high c.args.row))
    c.release_edges.ensures.counts (λ d r. omega arith)

pub release_row-returns-else-count-gt-LAST-clause-above : goal.release_row-returns-else-count-gt-LAST-clause-above
release_row-returns-else-count-gt-LAST-clause-above g t c d lt =
    let tables = c.args.tables.now in
    let depth = c.args.depth in
    c.release_edges.ensures.above d (omega arith) ∙ ap (λ u. table_at u d) c.remove-node.ensures.gone
    ∙ beside_put tables depth (without_row (table_at tables depth) c.args.row) d (λ is. omega arith)
