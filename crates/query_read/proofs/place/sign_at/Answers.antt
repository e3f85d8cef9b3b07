use Rattle.std.proofs.Common.{◌∙◌, ap, arith}
use Rattle.query_grammar.specs.Signs.{sign_of}
use Rattle.query_read.proofs.PlacesFound.{at_there, sign_past}
use Rattle.query_read.proofs.place.sign_at.Goals as goal

pub returns-then-i-all : goal.returns-then-i-all
returns-then-i-all c = sign_past c.args.all.now c.args.i (omega arith)

pub returns : goal.returns
returns c = c.sign.ensures ∙ ap sign_of (at_there c.args.all.now c.args.i c.index-all-i.result (omega arith) c.index-all-i.is)
