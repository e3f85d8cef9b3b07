use Rattle.std.proofs.Common.{rules, arith, ◌∙◌, [], ap, sym, subst}
use Rattle.std.proofs.lemmas.Result.{err_from_is_err_and}
use Rattle.std.proofs.lemmas.Option.{get_or_from_slice_get}
use Rattle.std.specs.Io.KnownBytes.{append_known}
use Rattle.tn_io.specs.Known.{Begins}
use Rattle.tn_io.specs.OutText.{all_put}
use Rattle.run_model.specs.Answers.{line_text}
use Rattle.tn_io.proofs.KnownLemmas.{begins_self, begins_trans}
use Rattle.answer_text.proofs.PutLemmas.{put_more, put_cut}
use Rattle.answer_text.proofs.pieces.put_lines.Goals as goal

pub loop-i-preserved : goal.loop-i-preserved
loop-i-preserved g c = record {
  same_sink = c.in_ok-put_line.ensures.same_sink ∙ c.loop-i.invariant.same_sink;
  put = put_more line_text _ _ _ c.args.lines.now c.loop-i.i [] (omega arith) c.loop-i.invariant.put (c.in_ok-put_line.ensures.put.put ∙ ap (append_known (all_put g.K.Sink.written c.loop-i.out)) (ap line_text (c.as_str.ensures.text ∙ sym (get_or_from_slice_get c.args.lines.now c.loop-i.i c.at.result.now [] c.at.ensures))));
  grows = begins_trans _ _ _ c.loop-i.invariant.grows c.in_ok-put_line.ensures.put.grows;
  faults = search rules;
}

pub returns-in_err-put_line-clause-put : goal.returns-in_err-put_line-clause-put
returns-in_err-put_line-clause-put g c =
    let failed = err_from_is_err_and c.from_residual.result c.from_residual.ensures.1 in
    record {
      put = rw failed.1 tt;
      cut = rw failed.1 (put_cut line_text _ _ _ c.args.lines.now c.loop-i.i [] (omega arith) c.loop-i.invariant.put (subst (λ z. Begins (g.K.Sink.written c.put_line.new.out.sink.now) (append_known (all_put g.K.Sink.written c.loop-i.out) z)) (ap line_text (c.as_str.ensures.text ∙ sym (get_or_from_slice_get c.args.lines.now c.loop-i.i c.at.result.now [] c.at.ensures))) c.in_err-put_line.ensures.put.cut));
      cause = search rules;
      grows = begins_trans _ _ _ c.loop-i.invariant.grows c.in_err-put_line.ensures.put.grows;
    }

pub loop-i-init : goal.loop-i-init
loop-i-init g c = record { same_sink = search rules; put = search rules; grows = begins_self _; faults = search rules }
