use Rattle.std.proofs.Common.{◌∙◌, ap, Some}
use Rattle.trie_view.proofs.SliceLemmas.{triple_given, triple_lacks, pair_given, pair_lacks, key_given, key_lacks, triples_lack, triples_keyless, triples_lead, triples_given, pairs_lack, pairs_keyed, pairs_lead, pairs_lead_full, pairs_given, keys_lack, keys_given}
use Rattle.trie_view.proofs.sub.Sub.place_at.Goals as goal

pub returns-then-key-clause-is : goal.returns-then-key-clause-is
returns-then-key-clause-is g c =
    let sub = c.args.self in
    triple_lacks sub.tables.now sub.place sub.known c.args.position c.requires.within c.args.key.0 c.in-Triple.triple c.in-Triple.is c.key.result c.key.ensures c.if-key.true

pub returns-else-key-clause-is : goal.returns-else-key-clause-is
returns-else-key-clause-is g c =
    let sub = c.args.self in
    triple_given sub.tables.now sub.place sub.known c.args.position c.requires.within c.args.key.0 c.in-Triple.triple c.in-Triple.is c.key.result c.key.ensures c.if-key.false c.without.result c.without.ensures

pub returns-in_err-under-in-Triples-clause-is : goal.returns-in_err-under-in-Triples-clause-is
returns-in_err-under-in-Triples-clause-is g c =
    let sub = c.args.self in
    triples_lack sub.tables.now sub.place sub.known c.args.position c.requires.within c.args.key.0 c.in-Triples.node c.in-Triples.is c.under.result c.under.ensures c.in_err-under-in-Triples.was c.from_residual.result c.from_residual.ensures

pub unreachable-requires : goal.unreachable-requires
unreachable-requires g c =
    let sub = c.args.self in
    triples_keyless sub.tables.now sub.place sub.known c.args.position c.requires.within c.args.key.0 c.in-Triples.node c.in-Triples.is c.under.result c.under.ensures c.in-Key-2.field-0 (c.in_ok-under-in-Triples.was ∙ ap Some c.in-Key-2.is)

pub pairs_of-requires : goal.pairs_of-requires
pairs_of-requires g c =
    let sub = c.args.self in
    triples_lead sub.tables.now sub.place sub.known c.args.position c.requires.within c.args.key.0 c.in-Triples.node c.in-Triples.is c.under.result c.under.ensures c.in-Node.row (c.in_ok-under-in-Triples.was ∙ ap Some c.in-Node.is)

pub returns-in-Node-clause-is : goal.returns-in-Node-clause-is
returns-in-Node-clause-is g c =
    let sub = c.args.self in
    triples_given sub.tables.now sub.place sub.known c.args.position c.requires.within c.args.key.0 c.in-Triples.node c.in-Triples.is c.under.result c.under.ensures c.in-Node.row (c.in_ok-under-in-Triples.was ∙ ap Some c.in-Node.is) c.pairs_of.result c.pairs_of.ensures

pub returns-then-key-2-clause-is : goal.returns-then-key-2-clause-is
returns-then-key-2-clause-is g c =
    let sub = c.args.self in
    pair_lacks sub.tables.now sub.place sub.known c.args.position c.requires.within c.args.key.0 c.in-Pair.pair c.in-Pair.is c.key-in-Pair.result c.key-in-Pair.ensures c.if-key-2.true

pub returns-else-key-2-clause-is : goal.returns-else-key-2-clause-is
returns-else-key-2-clause-is g c =
    let sub = c.args.self in
    pair_given sub.tables.now sub.place sub.known c.args.position c.requires.within c.args.key.0 c.in-Pair.pair c.in-Pair.is c.key-in-Pair.result c.key-in-Pair.ensures c.if-key-2.false c.without-in-Pair.result c.without-in-Pair.ensures

pub returns-in_err-other-in-Pairs-clause-is : goal.returns-in_err-other-in-Pairs-clause-is
returns-in_err-other-in-Pairs-clause-is g c =
    let sub = c.args.self in
    pairs_lack sub.tables.now sub.place sub.known c.args.position c.requires.within c.args.key.0 c.in-Pairs.node c.in-Pairs.is c.under-in-Pairs.result c.under-in-Pairs.ensures c.in_err-other-in-Pairs.was c.from_residual-in_err-other-in-Pairs.result c.from_residual-in_err-other-in-Pairs.ensures

pub returns-in-Key-3-clause-is : goal.returns-in-Key-3-clause-is
returns-in-Key-3-clause-is g c =
    let sub = c.args.self in
    pairs_keyed sub.tables.now sub.place sub.known c.args.position c.requires.within c.args.key.0 c.in-Pairs.node c.in-Pairs.is c.under-in-Pairs.result c.under-in-Pairs.ensures c.in-Key-3.other (c.in_ok-other-in-Pairs.was ∙ ap Some c.in-Key-3.is)

pub keys_of-requires-clause-there : goal.keys_of-requires-clause-there
keys_of-requires-clause-there g c =
    let sub = c.args.self in
    pairs_lead sub.tables.now sub.place sub.known c.args.position c.requires.within c.args.key.0 c.in-Pairs.node c.in-Pairs.is c.under-in-Pairs.result c.under-in-Pairs.ensures c.in-Node-2.row (c.in_ok-other-in-Pairs.was ∙ ap Some c.in-Node-2.is)

pub keys_of-requires-clause-full : goal.keys_of-requires-clause-full
keys_of-requires-clause-full g c =
    let sub = c.args.self in
    pairs_lead_full sub.tables.now sub.place sub.known c.args.position c.requires.within c.args.key.0 c.in-Pairs.node c.in-Pairs.is c.under-in-Pairs.result c.under-in-Pairs.ensures c.in-Node-2.row (c.in_ok-other-in-Pairs.was ∙ ap Some c.in-Node-2.is)

pub returns-in-Node-2-clause-is : goal.returns-in-Node-2-clause-is
returns-in-Node-2-clause-is g c =
    let sub = c.args.self in
    pairs_given sub.tables.now sub.place sub.known c.args.position c.requires.within c.args.key.0 c.in-Pairs.node c.in-Pairs.is c.under-in-Pairs.result c.under-in-Pairs.ensures c.in-Node-2.row (c.in_ok-other-in-Pairs.was ∙ ap Some c.in-Node-2.is) c.keys_of.result c.keys_of.ensures

pub returns-then-only-key-clause-is : goal.returns-then-only-key-clause-is
returns-then-only-key-clause-is g c =
    let sub = c.args.self in
    key_lacks sub.tables.now sub.place sub.known c.args.position c.requires.within c.args.key.0 c.in-Key.only c.in-Key.is c.if-only-key.true

pub returns-else-only-key-clause-is : goal.returns-else-only-key-clause-is
returns-else-only-key-clause-is g c =
    let sub = c.args.self in
    key_given sub.tables.now sub.place sub.known c.args.position c.requires.within c.args.key.0 c.in-Key.only c.in-Key.is c.if-only-key.false

pub returns-in_err-get-in-Keys-clause-is : goal.returns-in_err-get-in-Keys-clause-is
returns-in_err-get-in-Keys-clause-is g c =
    let sub = c.args.self in
    keys_lack sub.tables.now sub.place sub.known c.args.position c.requires.within c.args.key.0 c.in-Keys.edges c.in-Keys.is c.get.result c.get.ensures c.in_err-get-in-Keys.was c.from_residual-in_err-get-in-Keys.result c.from_residual-in_err-get-in-Keys.ensures

pub returns-in_ok-get-in-Keys-clause-is : goal.returns-in_ok-get-in-Keys-clause-is
returns-in_ok-get-in-Keys-clause-is g c =
    let sub = c.args.self in
    keys_given sub.tables.now sub.place sub.known c.args.position c.requires.within c.args.key.0 c.in-Keys.edges c.in-Keys.is c.get.result c.get.ensures c.in_ok-get-in-Keys.field-0 c.in_ok-get-in-Keys.was
