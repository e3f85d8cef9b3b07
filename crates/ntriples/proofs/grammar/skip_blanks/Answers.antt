use Rattle.std.proofs.Common.{◌∙◌, drop, ap, arith}
use Rattle.std.proofs.lemmas.List.{take_all, length-drop}
use Rattle.ntriples.proofs.BlankLemmas.{behind_first}
use Rattle.ntriples.proofs.grammar.skip_blanks.Goals as goal

pub returns : goal.returns
returns c =
    let bs = c.args.bytes.now in
    let first = behind_first bs c.find_not_byteset.result c.find_not_byteset.ensures in
    take_all _ _ (omega (arith, length-drop c.unwrap_or.result bs)) ∙ ap (λ k. drop k bs) c.unwrap_or.ensures ∙ first
