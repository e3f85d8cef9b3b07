use Rattle.std.proofs.Common.{◌∙◌, ℕ, List, Option, ap, sym, arith, drop}
use Rattle.query_grammar.specs.Lexemes.{Lexeme}
use Rattle.query_grammar.specs.Texts.{declared, or_before}
use Rattle.query_read.specs.Reads.{declared_first}
use Rattle.query_read.proofs.PrefixesRead.{declared_before}
use Rattle.query_read.proofs.prefixes.Prefixes.of.Goals as goal

pub loop-i-preserved : goal.loop-i-preserved
loop-i-preserved c = record {
  within = omega arith;
  each = λ name.
      c.in_ok-declare.ensures name
      ∙ ap (λ (o : Option (List ℕ)). or_before o (declared_first name c.tokens_from.result.now)) (c.loop-i.invariant.each name)
      ∙ ap (λ (ls : List Lexeme). or_before (declared name (drop c.loop-i.i c.args.all.now)) (declared_first name ls)) c.tokens_from.ensures
      ∙ sym (declared_before c.args.all.now c.loop-i.i name (omega arith) (omega arith));
}
