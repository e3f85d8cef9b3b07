use Rattle.std.proofs.Common.{sym, subst}
use Rattle.trie_reopen.specs.Shared.{AreTurned}
use Rattle.trie_reopen.proofs.Unmoved.{ok_holds}
use Rattle.trie_reopen.proofs.triple_map.replace_triple_map.Goals as goal

pub returns-clause-shared : goal.returns-clause-shared
returns-clause-shared g c = ok_holds _ c.with.result
    (λ G H i turned shared. c.in_ok-replace_rows.ensures.shared G H i (subst (AreTurned c.args.change G H i c.args.context.now c.args.old.now) (sym c.deref.ensures.value) turned) shared)
