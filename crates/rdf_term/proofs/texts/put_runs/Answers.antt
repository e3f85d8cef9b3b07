use Rattle.std.proofs.Common.{rules, refl, ◌∙◌, ◌++◌, [], sym, ap, append_assoc, subst}
use Rattle.std.proofs.lemmas.Result.{err_from_is_err_and}
use Rattle.tn_io.specs.OutText.{Puts}
use Rattle.tn_io.proofs.PutLemmas.{puts_same, puts_both, puts_first, puts_nothing}
use Rattle.rdf_term.proofs.EscapedLemmas.{cut_run, cut_some}
use Rattle.rdf_term.specs.Escapes.{form_text}
use Rattle.rdf_term.proofs.texts.put_runs.Goals as goal

pub loop-escape-init : goal.loop-escape-init
loop-escape-init g c = (search rules, refl, ([], puts_nothing _ _ _, refl))

pub returns-in_err-put-clause-put : goal.returns-in_err-put-clause-put
returns-in_err-put-clause-put g c =
    let so_far = c.loop-escape.invariant.2 in
    let run = cut_run c.args.escapes c.loop-escape.left.now c.cut.result.0 c.cut.result.1 c.cut.ensures in
    let x = c.as_bytes.result.now in
    let failed = err_from_is_err_and c.from_residual.result c.from_residual.ensures.1 in
    puts_same _ _ (append_assoc so_far.0 x run.0 ∙ ap (λ z. so_far.0 ++ (z ++ run.0)) c.as_bytes.ensures.value ∙ sym (so_far.2 ∙ ap (λ z. so_far.0 ++ z) run.1))
    (puts_first c.put.result c.from_residual.result _ _ (so_far.0 ++ x) run.0 c.in_err-put.was failed.1 (puts_both _ c.put.result _ so_far.0 x refl so_far.1 c.put.ensures.puts))

pub returns-in_err-put-2-clause-put : goal.returns-in_err-put-2-clause-put
returns-in_err-put-2-clause-put g c =
    let so_far = c.loop-escape.invariant.2 in
    let cut = cut_some c.args.escapes c.loop-escape.left.now c.cut.result.0 c.cut.result.1 c.in-Some.escape c.in-Some.rest c.cut.ensures c.in-Some.is in
    let x = c.as_bytes.result.now in
    let y = c.as_bytes-in-loop-escape.result.now in
    let z = form_text c.args.escapes c.in-Some.rest.now in
    let failed = err_from_is_err_and c.from_residual-in_err-put-2.result c.from_residual-in_err-put-2.ensures.1 in
    puts_same _ _
    (ap (λ w. w ++ z) (append_assoc so_far.0 x y) ∙ append_assoc so_far.0 (x ++ y) z ∙ ap (λ w. so_far.0 ++ w) (append_assoc x y z ∙ ap (λ w. w ++ (y ++ z)) c.as_bytes.ensures.value ∙ ap (λ w. c.cut.result.0.now ++ (w ++ z)) c.as_bytes-in-loop-escape.ensures.value ∙ sym cut.text) ∙ sym so_far.2)
    (puts_first c.put-in-loop-escape.result c.from_residual-in_err-put-2.result _ _ ((so_far.0 ++ x) ++ y) z c.in_err-put-2.was failed.1
    (puts_both c.put.result c.put-in-loop-escape.result _ (so_far.0 ++ x) y c.in_ok-put.was (puts_both _ c.put.result _ so_far.0 x refl so_far.1 c.put.ensures.puts) c.put-in-loop-escape.ensures.puts))

pub loop-escape-preserved : goal.loop-escape-preserved
loop-escape-preserved g c =
    let so_far = c.loop-escape.invariant.2 in
    let cut = cut_some c.args.escapes c.loop-escape.left.now c.cut.result.0 c.cut.result.1 c.in-Some.escape c.in-Some.rest c.cut.ensures c.in-Some.is in
    let x = c.as_bytes.result.now in
    let y = c.as_bytes-in-loop-escape.result.now in
    let z = form_text c.args.escapes c.in-Some.rest.now in (
      search rules,
      cc,
      (
        (so_far.0 ++ x) ++ y,
        subst (λ r. Puts g.K.Sink.written g.K.Sink.faults c.args.out.now c.put-in-loop-escape.new.self r ((so_far.0 ++ x) ++ y)) c.in_ok-put-2.was (puts_both c.put.result c.put-in-loop-escape.result _ (so_far.0 ++ x) y c.in_ok-put.was (puts_both _ c.put.result _ so_far.0 x refl so_far.1 c.put.ensures.puts) c.put-in-loop-escape.ensures.puts),
        so_far.2 ∙ ap (λ w. so_far.0 ++ w) (cut.text ∙ ap (λ w. w ++ (c.in-Some.escape.now ++ z)) (sym c.as_bytes.ensures.value) ∙ ap (λ w. x ++ (w ++ z)) (sym c.as_bytes-in-loop-escape.ensures.value) ∙ sym (append_assoc x y z))
            ∙ sym (append_assoc so_far.0 (x ++ y) z) ∙ ap (λ w. w ++ z) (sym (append_assoc so_far.0 x y)),
      ),
    )
