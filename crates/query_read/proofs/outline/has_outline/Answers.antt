use Rattle.std.proofs.Common.{◌∙◌, List, subst, drop, arith}
use Rattle.std.proofs.lemmas.List.{drop_all}
use Rattle.query_grammar.specs.Lexemes.{Lexeme}
use Rattle.query_read.proofs.OutlineMoves.{IsOutlineSoFar, outline_begins, outline_goes_on, outline_ends}
use Rattle.query_read.proofs.Within.{drop_there}
use Rattle.query_read.proofs.outline.has_outline.Goals as goal

pub loop-lexeme-init : goal.loop-lexeme-init
loop-lexeme-init c = outline_begins c.args.all.now

pub loop-lexeme-preserved : goal.loop-lexeme-preserved
loop-lexeme-preserved c =
    outline_goes_on c.args.all.now (drop c.loop-lexeme.lexeme-index c.args.all.now) _ c.lexeme-item.result _ _ _ c.loop-lexeme.invariant
    (drop_there c.args.all.now c.lexeme-item.result c.loop-lexeme.lexeme-index (omega arith) c.lexeme-item.is) c.sign.ensures c.step-outline.ensures

pub returns : goal.returns
returns c =
    c.may_end.ensures ∙ outline_ends c.args.all.now _
    (subst (λ (ls : List Lexeme). IsOutlineSoFar c.args.all.now ls c.loop-lexeme.outline) (drop_all c.loop-lexeme.lexeme-index c.args.all.now (omega arith)) c.loop-lexeme.invariant)
