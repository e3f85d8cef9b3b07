use Rattle.std.proofs.Common.{[], ◌∷◌, arith, ap, ◌∙◌}
use Rattle.std.proofs.lemmas.Result.{IfOk-weaker}
use Rattle.rdf_term.specs.Seen.{lent_term}
use Rattle.graph_lines.specs.Walks.{line_behind}
use Rattle.graph_lines.specs.declared.style.Style.TheVariants.{Line}
use Rattle.graph_lines.proofs.MemberLemmas.{key_text, text_under}
use Rattle.graph_lines.proofs.triple_lines.triple_line.Goals as goal

pub returns : goal.returns
returns c =
    let terms = c.args.dict.now in
    let s = c.args.triple.0.0 in
    let p = c.args.triple.1.0 in
    let o = c.args.triple.2.0 in
    IfOk-weaker c.with_last.result _ _ (λ line is.
    key_text Line terms c.in_ok-pair.pair o (lent_term c.term-3.result) line c.term-3.ensures is
    ∙ text_under Line terms c.in_ok-subject.subject p (lent_term c.term-2.result) c.in_ok-pair.pair c.term-2.ensures c.in_ok-pair.ensures (o ∷ []) (omega arith)
    ∙ text_under Line terms c.new.result s (lent_term c.term.result) c.in_ok-subject.subject c.term.ensures c.in_ok-subject.ensures (p ∷ o ∷ []) (omega arith)
    ∙ ap (λ before. line_behind terms before (s ∷ p ∷ o ∷ [])) c.new.ensures)
    c.with_last.ensures
