use Rattle.std.proofs.Common.{◌≡◌, ◌+◌, ◌≤◌, sym, subst, ap, arith}
use Rattle.node_table.specs.Table.{with_row}
use Rattle.trie_context.specs.Rows.{table_at, put_table, row_of}
use Rattle.trie_context.specs.Holds.{count_of, one_at, at_depth, CountsRiseBy, RowsStay}
use Rattle.trie_context.proofs.TableMoves.{bumped, insert_counts, count_stays}
use Rattle.trie_context.proofs.ReleaseLemmas.{if_at, some_row}
use Rattle.trie_context.proofs.retain.retain_row.Goals as goal

pub returns-clause-moved : goal.returns-clause-moved
returns-clause-moved g c =
    let t = c.args.tables.now in
    let s = some_row t c.args.depth c.args.row c.requires.there in
    bumped g.M.Mix.mixed t c.requires.kept c.args.depth c.requires.low c.requires.high c.args.row s.0 s.1 c.bump.new.self
    (if_at (λ r. c.bump.new.self ≡ put_table t c.args.depth (with_row (table_at t c.args.depth) c.args.row (record r { count = r.count + 1 }))) (row_of t c.args.depth c.args.row) s.1 c.bump.ensures)

pub returns-clause-stay : goal.returns-clause-stay
returns-clause-stay g c =
    let t = c.args.tables.now in
    let s = some_row t c.args.depth c.args.row c.requires.there in
    subst (λ u. RowsStay t u) (sym (if_at (λ r. c.bump.new.self ≡ put_table t c.args.depth (with_row (table_at t c.args.depth) c.args.row (record r { count = r.count + 1 }))) (row_of t c.args.depth c.args.row) s.1 c.bump.ensures))
    (count_stays t c.args.depth c.requires.low c.requires.high c.args.row (s.0.count + 1) s.0 s.1)

pub returns-clause-counts : goal.returns-clause-counts
returns-clause-counts g c =
    let t = c.args.tables.now in
    let s = some_row t c.args.depth c.args.row c.requires.there in
    let few : s.0.count + 1 ≤ count_of (row_of t c.args.depth c.args.row) + 1 = let counted : count_of (row_of t c.args.depth c.args.row) ≡ s.0.count = ap count_of s.1 in omega arith in
    subst (λ u. CountsRiseBy t u (at_depth c.args.depth (one_at c.args.row))) (sym (if_at (λ r. c.bump.new.self ≡ put_table t c.args.depth (with_row (table_at t c.args.depth) c.args.row (record r { count = r.count + 1 }))) (row_of t c.args.depth c.args.row) s.1 c.bump.ensures))
    (insert_counts t c.args.depth c.requires.low c.requires.high c.args.row (record s.0 { count = s.0.count + 1 }) few)
