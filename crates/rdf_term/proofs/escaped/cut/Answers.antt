use Rattle.std.proofs.Common.{◌∙◌, ℕ, List, get_or, length, sym, ap, arith}
use Rattle.std.specs.List.{prefix_len}
use Rattle.rdf_term.specs.Escapes.{stays}
use Rattle.rdf_term.proofs.EscapedLemmas.{run_boundary, stop_is, one_boundary, cut_is, no_cut}
use Rattle.rdf_term.proofs.escaped.cut.Goals as goal

pub split_at-requires : goal.split_at-requires
split_at-requires c =
    let n = c.plain_len.ensures ∙ ap (prefix_len (stays c.args.escapes)) c.as_bytes.ensures.value in
    run_boundary c.args.escapes c.args.form.now c.plain_len.result n

pub escape-requires : goal.escape-requires
escape-requires c =
    let n = c.plain_len.ensures ∙ ap (prefix_len (stays c.args.escapes)) c.as_bytes.ensures.value in
    let behind = c.as_bytes-2.ensures.value ∙ c.split_at.ensures.back in
    stop_is c.args.escapes c.args.form.now c.as_bytes-2.result.now c.plain_len.result c.in-Some.first.now n behind c.in-Some.ensures.item.3.0 (c.in-Some.ensures.item.3.1 0)

pub split_at-requires-in-Some : goal.split_at-requires-in-Some
split_at-requires-in-Some c =
    let n = c.plain_len.ensures ∙ ap (prefix_len (stays c.args.escapes)) c.as_bytes.ensures.value in
    let same = sym c.as_bytes-2.ensures.value in
    one_boundary c.args.escapes c.args.form.now c.split_at.result.1.now c.plain_len.result c.in-Some.first.now c.utf8.form n c.split_at.ensures.back
    (omega (arith, ap length same, c.in-Some.ensures.item.3.0)) (c.in-Some.ensures.item.3.1 0 ∙ sym (ap (λ (z : List ℕ). get_or z 0 0) same))

pub returns-in-Some : goal.returns-in-Some
returns-in-Some c =
    let n = c.plain_len.ensures ∙ ap (prefix_len (stays c.args.escapes)) c.as_bytes.ensures.value in
    let same = sym c.as_bytes-2.ensures.value in
    cut_is c.args.escapes c.args.form.now c.split_at.result.0.now c.split_at.result.1.now c.escape.result.now c.split_at-in-Some.result.1.now c.plain_len.result c.in-Some.first.now n c.split_at.ensures.front c.split_at.ensures.back
    (omega (arith, ap length same, c.in-Some.ensures.item.3.0)) (c.in-Some.ensures.item.3.1 0 ∙ sym (ap (λ (z : List ℕ). get_or z 0 0) same)) c.escape.ensures c.split_at-in-Some.ensures.back

pub returns-in-None : goal.returns-in-None
returns-in-None c =
    let n = c.plain_len.ensures ∙ ap (prefix_len (stays c.args.escapes)) c.as_bytes.ensures.value in
    let same = sym c.as_bytes-2.ensures.value in
    no_cut c.args.escapes c.args.form.now c.split_at.result.0.now c.split_at.result.1.now c.plain_len.result n c.split_at.ensures.front c.split_at.ensures.back (omega (arith, ap length same, c.in-None.ensures.item.3))
