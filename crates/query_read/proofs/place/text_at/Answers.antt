use Rattle.std.proofs.Common.{◌∙◌, ap, sym, arith}
use Rattle.query_grammar.specs.Lexemes.{Lexeme}
use Rattle.query_read.proofs.PlacesFound.{at_there, at_past}
use Rattle.query_read.proofs.place.text_at.Goals as goal

pub returns-then-i-all : goal.returns-then-i-all
returns-then-i-all c = sym (ap (λ (l : Lexeme). l.text) (at_past c.args.all.now c.args.i (omega arith)))

pub returns : goal.returns
returns c = c.text.ensures ∙ ap (λ (l : Lexeme). l.text) (at_there c.args.all.now c.args.i c.index-all-i.result (omega arith) c.index-all-i.is)
