use Rattle.std.proofs.Common.{◌∙◌, ap, arith, sym, drop}
use Rattle.std.specs.Prelude.{map}
use Rattle.query_read.specs.Seen.{name_seen}
use Rattle.query_read.proofs.NamesRead.{heads, variables_begin, variables_more, too_many}
use Rattle.query_read.proofs.Within.{drop_there}
use Rattle.query_read.proofs.name.variables.Goals as goal

pub loop-lexeme-init : goal.loop-lexeme-init
loop-lexeme-init c = variables_begin c.args.all.now ∙ ap (λ ns. heads (map name_seen ns) c.args.all.now) (sym c.new-names.ensures.items)

pub loop-lexeme-preserved : goal.loop-lexeme-preserved
loop-lexeme-preserved c =
    variables_more c.args.all.now _ _ c.lexeme-item.result _ _ _ c.loop-lexeme.invariant (drop_there c.args.all.now c.lexeme-item.result c.loop-lexeme.lexeme-index (omega arith) c.lexeme-item.is) c.in_ok-add.ensures c.variable.ensures

pub returns-then-len-gt128 : goal.returns-then-len-gt128
returns-then-len-gt128 c = too_many c.args.all.now (drop c.loop-lexeme.lexeme-index c.args.all.now) c.loop-lexeme.names.items c.loop-lexeme.invariant (omega (arith, c.len.ensures))
