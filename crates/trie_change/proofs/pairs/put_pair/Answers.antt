use Rattle.trie_change.proofs.LoneLemmas.{lone_given, lone_stands}
use Rattle.trie_change.specs.PairLaws.{on_err}
use Rattle.trie_change.proofs.pairs.put_pair.Goals as goal

pub returns-in_err-held-clause-kept : goal.returns-in_err-held-clause-kept
returns-in_err-held-clause-kept g c =
    on_err _ c.from_residual.result (lone_given g.M.Mix.mixed c.args.context.now c.intern.new.self c.is_kept.ensures c.args.node c.requires.lone.0 c.requires.lone.1 c.in_err-held.ensures.given c.in_err-held.ensures.came)

pub returns-clause-stands : goal.returns-clause-stands
returns-clause-stands g c p is = lone_stands c.intern.new.self c.in_ok-held.held c.args.node c.in_ok-held.ensures.there p is c.into_edge.result c.into_edge.ensures
