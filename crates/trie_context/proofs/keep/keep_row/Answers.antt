use Rattle.std.proofs.Common.{◌+◌, ◌≡◌, refl}
use Rattle.node_table.specs.Table.{with_row}
use Rattle.trie_context.specs.Rows.{table_at, put_table, row_of}
use Rattle.trie_context.proofs.ReleaseLemmas.{if_at, some_row}
use Rattle.trie_context.proofs.TableMoves.{bumped}
use Rattle.trie_context.proofs.InternLemmas.{no_row}
use Rattle.trie_context.proofs.KeepLemmas.{found_kept, made_kept}
use Rattle.trie_context.proofs.keep.keep_row.Goals as goal

pub add-requires-clause-new : goal.add-requires-clause-new
add-requires-clause-new g c = no_row g.M.Mix.mixed c.args.tables.now c.requires.kept c.args.depth c.requires.low c.args.node c.hash_of-hash.result c.hash_of-hash.ensures (c.in-None.ensures.none refl)

pub returns-in-Some-clause-kept : goal.returns-in-Some-clause-kept
returns-in-Some-clause-kept g c =
    let t = c.args.tables.now in
    let d = c.args.depth in
    let i = c.in-Some.found in
    let s = some_row t d i c.in-Some.ensures.there in
    (bumped g.M.Mix.mixed t c.requires.kept d c.requires.low c.requires.high i s.0 s.1 c.bump.new.self
    (if_at (λ r. c.bump.new.self ≡ put_table t d (with_row (table_at t d) i (record r { count = r.count + 1 }))) (row_of t d i) s.1 c.bump.ensures)).kept

pub returns-in-Ok-clause-kept : goal.returns-in-Ok-clause-kept
returns-in-Ok-clause-kept g c =
    let m = made_kept g.M.Mix.mixed c.args.tables.now c.requires.kept c.args.depth c.requires.low c.requires.high c.args.node c.requires.form c.requires.held c.hash_of-hash.result c.hash_of-hash.ensures (c.in-None.ensures.none refl)
    c.in-Ok.row c.in-Ok.ensures.fresh c.add.new.self c.in-Ok.ensures.added in
    m.moved.kept

pub returns-in-Some-clause-interned : goal.returns-in-Some-clause-interned
returns-in-Some-clause-interned g c =
    let t = c.args.tables.now in
    let d = c.args.depth in
    let i = c.in-Some.found in
    let s = some_row t d i c.in-Some.ensures.there in
    found_kept g.M.Mix.mixed t c.requires.kept d c.requires.low c.requires.high c.args.node i s.0 s.1 (if_at (λ row. row.node ≡ c.args.node) (row_of t d i) s.1 c.in-Some.ensures.equal) c.bump.new.self
    (if_at (λ r. c.bump.new.self ≡ put_table t d (with_row (table_at t d) i (record r { count = r.count + 1 }))) (row_of t d i) s.1 c.bump.ensures)

pub returns-in-Ok-clause-interned : goal.returns-in-Ok-clause-interned
returns-in-Ok-clause-interned g c =
    made_kept g.M.Mix.mixed c.args.tables.now c.requires.kept c.args.depth c.requires.low c.requires.high c.args.node c.requires.form c.requires.held c.hash_of-hash.result c.hash_of-hash.ensures (c.in-None.ensures.none refl)
    c.in-Ok.row c.in-Ok.ensures.fresh c.add.new.self c.in-Ok.ensures.added
