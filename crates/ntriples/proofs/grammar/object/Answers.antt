use Rattle.ntriples.proofs.TermLemmas.{object_node, object_literal, no_object, match_more}
use Rattle.ntriples.proofs.grammar.object.Goals as goal

pub returns-in-Some : goal.returns-in-Some
returns-in-Some c = object_node c.args.scope.now c.args.bytes.now c.args.to.now c.subject.new.to c.in-Some.node.0 c.in-Some.node.1.now c.in-Some.ensures.term

pub returns : goal.returns
returns c =
    match_more c.literal.result c.literal.ensures (no_object c.args.scope.now c.args.bytes.now c.in_default.ensures.term)
    (λ r. object_literal c.args.scope.now c.args.bytes.now c.args.to.now c.subject.new.to c.literal.new.to r.0 r.1.now c.in_default.ensures.term c.in_default.ensures.none)
