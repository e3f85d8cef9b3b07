use Rattle.query_lex.proofs.Placing.{whole}
use Rattle.query_lex.proofs.Runs.{all_barren}
use Rattle.query_lex.proofs.lexer.Lexer.new.Goals as goal

pub invariant_of-result : goal.invariant_of-result
invariant_of-result c = (whole c.args.text.now, all_barren c.args.text.now c.utf8.text)
