use Rattle.std.proofs.Common.{subst}
use Rattle.node_table.specs.Table.{HasNoNodeUnder}
use Rattle.trie_context.specs.Rows.{table_at}
use Rattle.trie_context.specs.Kept.{AreKept}
use Rattle.trie_context.proofs.KeepLemmas.{not_found}
use Rattle.trie_context.proofs.context.Context.find.Goals as goal

pub returns-clause-none : goal.returns-clause-none
returns-clause-none g c missing =
    let t = c.args.self.now in
    let none = c.find_equal.ensures.none missing in
    not_found g.M.Mix.mixed t (subst (AreKept g.M.Mix.mixed) c.self.view_is c.self.invariant) g.L.Level.DEPTH g.met.L.Level.depth_low c.args.node.now c.requires.form c.hash_of.result c.hash_of.ensures
    (subst (λ d. HasNoNodeUnder (table_at t d) c.args.node.now c.hash_of.result) c.DEPTH.ensures (subst (λ u. HasNoNodeUnder (table_at u c.DEPTH.result) c.args.node.now c.hash_of.result) c.self.view_is none))
