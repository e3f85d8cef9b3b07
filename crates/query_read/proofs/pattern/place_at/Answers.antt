use Rattle.std.proofs.Common.{arith}
use Rattle.std.specs.Prelude.{map}
use Rattle.query_read.specs.Seen.{name_seen}
use Rattle.query_read.proofs.TermsKnown.{place_past}
use Rattle.query_read.proofs.pattern.place_at.Goals as goal

pub returns-then-i-all : goal.returns-then-i-all
returns-then-i-all c = place_past c.args.all.now (map name_seen c.args.names.now) c.args.i (omega arith)
