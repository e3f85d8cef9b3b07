use Rattle.std.proofs.Common.{◌≡◌, IsSome, IfSome, refl, sym, subst, arith}
use Rattle.trie_context.specs.Rows.{row_of}
use Rattle.trie_change.proofs.TripleLemmas.{some_edge, pair_there, no_full, lone_is}
use Rattle.trie_change.proofs.triples.lone_triple.Goals as goal

pub unreachable-requires : goal.unreachable-requires
unreachable-requires g c = some_edge c.args.context.now c.args.first.now c.requires.lone (λ k. c.in_default.ensures.none refl k (omega arith))

pub node-requires : goal.node-requires
node-requires g c = subst (λ u. IsSome (row_of u 2 c.in-Node.row)) (sym c.tables.ensures.same)
    (pair_there c.tables.ensures.kept c.args.first.now c.requires.fits c.requires.lone c.in-Some.key.0 c.in-Some.edge c.in-Some.ensures.there c.in-Node.row c.in-Node.is)

pub unreachable-requires-in_default-node : goal.unreachable-requires-in_default-node
unreachable-requires-in_default-node g c =
    let reads = subst (λ u. IfSome (row_of u 2 c.in-Node.row) (λ w. w.node ≡ c.node.result.now)) c.tables.ensures.same c.node.ensures in
    no_full c.tables.ensures.kept c.args.first.now c.requires.fits c.requires.lone c.in-Some.key.0 c.in-Some.edge c.in-Some.ensures.there c.in-Node.row c.in-Node.is c.node.result.now reads _ _ _ _ _ c.in_default-node.is

pub returns : goal.returns
returns g c =
    let reads = subst (λ u. IfSome (row_of u 2 c.in-Node.row) (λ w. w.node ≡ c.node.result.now)) c.tables.ensures.same c.node.ensures in
    lone_is c.tables.ensures.kept c.args.first.now c.requires.fits c.requires.lone c.in-Some.key.0 c.in-Some.edge c.in-Some.ensures.there c.in-Node.row c.in-Node.is c.node.result.now reads c.in-Single.pair c.in-Single.is
