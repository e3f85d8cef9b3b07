use Rattle.std.proofs.Common.{sym, subst}
use Rattle.query_grammar.specs.Meaning.{Answer}
use Rattle.query_read.specs.Reads.{Reads}
use Rattle.query_read.proofs.ReaderLabels.{query_utf8, query_bytes}
use Rattle.query_read.proofs.reader.read.Goals as goal

pub returns-in-Ok-clause-query : goal.returns-in-Ok-clause-query
returns-in-Ok-clause-query c =
    subst (λ (a : Answer). Reads a c.read_text.result) (sym (query_utf8 c.args.text.now c.in-Ok.valid.now c.in-Ok.ensures.cases.0 c.in-Ok.ensures.cases.1)) c.read_text.ensures.query

pub returns-in-Err-clause-query : goal.returns-in-Err-clause-query
returns-in-Err-clause-query c = query_bytes c.args.text.now c.in-Err.ensures.cases.0
