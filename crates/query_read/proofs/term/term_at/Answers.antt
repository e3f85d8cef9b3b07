use Rattle.std.proofs.Common.{arith}
use Rattle.query_read.proofs.PlacesFound.{term_past}
use Rattle.query_read.proofs.term.term_at.Goals as goal

pub returns-then-i-all : goal.returns-then-i-all
returns-then-i-all c = term_past c.args.all.now c.args.i (omega arith)
