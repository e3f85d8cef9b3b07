use Rattle.std.proofs.Common.{arith}
use Rattle.query_read.proofs.TermsKnown.{known_begins, known_more, known_whole}
use Rattle.query_read.proofs.term.known_terms.Goals as goal

pub loop-i-init : goal.loop-i-init
loop-i-init c = known_begins _ c.args.all.now c.new-known.ensures.items

pub loop-i-preserved : goal.loop-i-preserved
loop-i-preserved c = known_more c.loop-i.known.items _ c.args.all.now c.loop-i.i c.has_term.result c.loop-i.invariant c.in_ok-push.ensures.items c.has_term.ensures

pub returns : goal.returns
returns c = known_whole c.loop-i.known.items c.args.all.now c.loop-i.i c.loop-i.invariant (omega arith)
