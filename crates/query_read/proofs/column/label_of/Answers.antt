use Rattle.std.proofs.Common.{arith}
use Rattle.query_read.specs.Seen.{name_seen}
use Rattle.query_read.proofs.NamesRead.{label_some, label_none}
use Rattle.query_read.proofs.column.label_of.Goals as goal

pub returns-then-number-names : goal.returns-then-number-names
returns-then-number-names c = label_some c.args.names.now (name_seen c.args.name) c.number_among-number.result c.number_among-number.ensures.number (omega arith)

pub returns : goal.returns
returns c = label_none c.args.names.now (name_seen c.args.name) c.number_among-number.result c.number_among-number.ensures.number (omega arith)
