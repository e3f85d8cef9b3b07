use Rattle.std.proofs.Common.{◌∙◌, List, Option, Some, ap, sym, subst}
use Rattle.query_grammar.specs.Lexemes.{Lexeme}
use Rattle.query_grammar.specs.Meaning.{of_lexemes}
use Rattle.query_read.specs.Reads.{Reads}
use Rattle.query_read.proofs.reader.read_text.Goals as goal

pub returns-in-Ok-Some-clause-query : goal.returns-in-Ok-Some-clause-query
returns-in-Ok-Some-clause-query c =
    let n = rw c.in-Ok-Some.field-0-is at c.in-Ok-Some.ensures in
    subst (λ (o : Option (List Lexeme)). Reads (of_lexemes o) c.read_lexemes.result) (ap (λ (ls : List Lexeme). Some ls) c.deref.ensures.value ∙ n) c.read_lexemes.ensures.query

pub returns-in-Ok-None-clause-query : goal.returns-in-Ok-None-clause-query
returns-in-Ok-None-clause-query c =
    let n = rw c.in-Ok-None.field-0-is at c.in-Ok-None.ensures in
    sym (ap of_lexemes n)
