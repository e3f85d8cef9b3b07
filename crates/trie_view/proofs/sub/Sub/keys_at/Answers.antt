use Rattle.std.proofs.Common.{sym}
use Rattle.trie_view.proofs.SliceLemmas.{triple_keys, pair_keys, key_keys, edges_keys, triples_keys_at, pairs_keys_at, triples_mapped, pairs_mapped}
use Rattle.trie_view.proofs.sub.Sub.keys_at.Goals as goal

pub returns-in-Triple : goal.returns-in-Triple
returns-in-Triple c =
    let sub = c.args.self in
    triple_keys sub.tables.now sub.place sub.known c.args.position c.requires.within c.in-Triple.triple c.in-Triple.is c.key.result c.key.ensures

pub returns-in-Pair : goal.returns-in-Pair
returns-in-Pair c =
    let sub = c.args.self in
    pair_keys sub.tables.now sub.place sub.known c.args.position c.requires.within c.in-Pair.pair c.in-Pair.is c.key-in-Pair.result c.key-in-Pair.ensures

pub returns-in-Key : goal.returns-in-Key
returns-in-Key c =
    let sub = c.args.self in
    key_keys sub.tables.now sub.place sub.known c.args.position c.requires.within c.in-Key.key c.in-Key.is

pub returns-in-Keys : goal.returns-in-Keys
returns-in-Keys c =
    let sub = c.args.self in
    edges_keys sub.tables.now sub.place sub.known c.args.position c.requires.within c.in-Keys.edges c.in-Keys.is

pub returns-in-Some : goal.returns-in-Some
returns-in-Some c =
    let sub = c.args.self in
    triples_keys_at sub.tables.now sub.place sub.known c.args.position c.requires.within c.in-Triples.node c.in-Triples.is c.in-Some.edges (sym c.in-Some.ensures)

pub returns-in-Some-map : goal.returns-in-Some-map
returns-in-Some-map c =
    let sub = c.args.self in
    pairs_keys_at sub.tables.now sub.place sub.known c.args.position c.requires.within c.in-Pairs.node c.in-Pairs.is c.in-Some-map.edges (sym c.in-Some-map.ensures)
