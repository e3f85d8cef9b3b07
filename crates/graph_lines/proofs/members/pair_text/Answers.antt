use Rattle.std.proofs.Common.{[], ◌∷◌, arith, ◌∙◌}
use Rattle.std.proofs.lemmas.Result.{IfOk-weaker}
use Rattle.rdf_term.specs.Seen.{lent_term}
use Rattle.graph_lines.proofs.MemberLemmas.{key_text, text_under}
use Rattle.graph_lines.proofs.members.pair_text.Goals as goal

pub returns : goal.returns
returns c =
    let style = c.args.style in
    let terms = c.args.dict.now in
    let second = c.args.pair.1.0 in
    IfOk-weaker c.with_last.result _ _ (λ text is.
    key_text style terms c.in_ok-word.word second (lent_term c.term-2.result) text c.term-2.ensures is
    ∙ text_under style terms c.args.before.now c.args.pair.0.0 (lent_term c.term.result) c.in_ok-word.word c.term.ensures c.in_ok-word.ensures (second ∷ []) (omega arith))
    c.with_last.ensures
