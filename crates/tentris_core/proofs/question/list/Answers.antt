use Rattle.std.proofs.Common.{true, ◌≡◌, ◌==◌, length, List, refl, sym, subst}
use Rattle.std.specs.List.{list_all}
use Rattle.std.specs.declared.option.Option.{Option}
use Rattle.query_plan.specs.Seen.{query_seen}
use Rattle.graph_store.specs.StoreState.{graph}
use Rattle.solution_model.specs.Rows.{Row}
use Rattle.std.specs.Prelude.{ℕ}
use Rattle.tentris_core.proofs.QuestionLemmas.{lack_answer, rows_answer, wide_answers}
use Rattle.tentris_core.proofs.question.list.Goals as goal

pub put_whole-requires-clause-wide : goal.put_whole-requires-clause-wide
put_whole-requires-clause-wide g c = λ rows may.
    subst (λ (columns : List (Option ℕ)). list_all (λ (row : Row). length row == length columns) rows ≡ true) (sym c.in-Ok.ensures.columns)
    (wide_answers (query_seen c.args.query.now) (graph c.args.store.now) rows (c.in-Ok.ensures.answers rows may))

pub returns-in-Ok-put_whole-clause-answers : goal.returns-in-Ok-put_whole-clause-answers
returns-in-Ok-put_whole-clause-answers g c = λ A body text plain sound e reads.
    let p = c.in-Ok-put_whole.ensures.text in
    rows_answer A c.args.store.now body sound text (query_seen c.args.query.now) c.in-Ok.listing p.rows _ _ _ plain e reads c.in-Ok.ensures.answers p.given (p.passes.whole.0, refl)

pub returns-in-Err-put_whole-clause-answers : goal.returns-in-Err-put_whole-clause-answers
returns-in-Err-put_whole-clause-answers g c = λ A body text plain sound e reads.
    let p = c.in-Err-put_whole.ensures.text in
    rows_answer A c.args.store.now body sound text (query_seen c.args.query.now) c.in-Ok.listing p.rows _ _ _ plain e reads c.in-Ok.ensures.answers p.given p.passes.cut

pub returns-in-Err-clause-answers : goal.returns-in-Err-clause-answers
returns-in-Err-clause-answers g c = λ A body text plain sound e reads. lack_answer A c.args.store.now body sound _ _ _ c.pass_on.ensures.text
