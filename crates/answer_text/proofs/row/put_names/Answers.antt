use Rattle.std.proofs.Common.{rules, ◌∙◌, ◌++◌, ◌==◌, ap, subst}
use Rattle.std.specs.Prelude.{codes, map}
use Rattle.std.proofs.lemmas.Result.{err_from_is_err_and}
use Rattle.std.specs.Io.KnownBytes.{append_known}
use Rattle.tn_io.specs.Known.{Begins}
use Rattle.tn_io.specs.OutText.{all_put}
use Rattle.query_plan.specs.Seen.{column_seen}
use Rattle.query_grammar.specs.Meaning.{Column}
use Rattle.tn_io.proofs.KnownLemmas.{begins_self, begins_trans}
use Rattle.answer_text.specs.Fields.{parting}
use Rattle.answer_text.proofs.RowLemmas.{field_more, field_cut, name_at}
use Rattle.answer_text.proofs.row.put_names.Goals as goal

pub loop-i-init : goal.loop-i-init
loop-i-init g c = record { same_sink = search rules; put = search rules; grows = begins_self _; faults = search rules }

pub loop-i-preserved : goal.loop-i-preserved
loop-i-preserved g c = record {
  same_sink = c.in_ok-put_name.ensures.same_sink ∙ c.loop-i.invariant.same_sink;
  put =
      field_more _ _ _ (map (λ (c : Column). codes "?" ++ c.name) (map column_seen c.args.columns.now)) c.loop-i.i (codes "?" ++ c.at.result.now.name) (name_at c.args.columns.now c.loop-i.i c.at.result.now c.at.ensures) c.loop-i.invariant.put
      (c.in_ok-put_name.ensures.put.put ∙ ap (λ n. append_known (all_put g.K.Sink.written c.loop-i.out) (parting (c.loop-i.i == 0) ++ (codes "?" ++ n))) (c.as_bytes-name.ensures.value ∙ c.as_str.ensures.text));
  grows = begins_trans _ _ _ c.loop-i.invariant.grows c.in_ok-put_name.ensures.put.grows;
  faults = search rules;
}

pub returns-in_err-put_name-clause-put : goal.returns-in_err-put_name-clause-put
returns-in_err-put_name-clause-put g c =
    let failed = err_from_is_err_and c.from_residual.result c.from_residual.ensures.1 in
    record {
      put = rw failed.1 tt;
      cut = rw failed.1 (field_cut _ _ _ (map (λ (c : Column). codes "?" ++ c.name) (map column_seen c.args.columns.now)) c.loop-i.i (codes "?" ++ c.at.result.now.name) (name_at c.args.columns.now c.loop-i.i c.at.result.now c.at.ensures) c.loop-i.invariant.put
          (subst (λ n. Begins (g.K.Sink.written c.put_name.new.out.sink.now) (append_known (all_put g.K.Sink.written c.loop-i.out) (parting (c.loop-i.i == 0) ++ (codes "?" ++ n)))) (c.as_bytes-name.ensures.value ∙ c.as_str.ensures.text) c.in_err-put_name.ensures.put.cut));
      cause = search rules;
      grows = begins_trans _ _ _ c.loop-i.invariant.grows c.in_err-put_name.ensures.put.grows;
    }
