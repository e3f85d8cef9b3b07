use Rattle.std.proofs.Common.{true, ◌≡◌, ◌∙◌, ◌==◌, length, List, refl, sym, subst}
use Rattle.std.specs.List.{list_all}
use Rattle.std.specs.declared.option.Option.{Option}
use Rattle.std.specs.Prelude.{ℕ}
use Rattle.query_plan.specs.Seen.{query_seen}
use Rattle.graph_store.specs.StoreState.{graph}
use Rattle.solution_model.specs.Rows.{Row}
use Rattle.sorted_rows.specs.Sorted.{GivesAllRows}
use Rattle.tentris_core.proofs.QuestionLemmas.{lack_answer, sorted_question, wide_answers, all_rows_given}
use Rattle.tentris_core.proofs.question.sort.Goals as goal

pub sorted_texts-requires-clause-wide : goal.sorted_texts-requires-clause-wide
sorted_texts-requires-clause-wide g c = λ rows may.
    subst (λ (columns : List (Option ℕ)). list_all (λ (row : Row). length row == length columns) rows ≡ true) (sym c.in-Ok.ensures.columns)
    (wide_answers (query_seen c.uncut-query.result.0) (graph c.args.store.now) rows (c.in-Ok.ensures.answers rows may))

pub returns-in-Ok-put_sorted_whole-clause-answers : goal.returns-in-Ok-put_sorted_whole-clause-answers
returns-in-Ok-put_sorted_whole-clause-answers g c = λ A body text sound e reads.
    let q = query_seen c.args.query in
    let G = graph c.args.store.now in
    let given : GivesAllRows q G c.in-Ok.listing = all_rows_given q G c.in-Ok.listing c.uncut-query.ensures.cut c.in-Ok.ensures.answers in
    let texts = c.deref.ensures.value ∙ c.in-Ok-sorted_texts.ensures q G given in
    let p = c.in-Ok-put_sorted_whole.ensures.text q G c.uncut-query.ensures.cut texts in
    sorted_question A c.args.store.now body sound text q _ _ _ e reads (p.whole.0, refl)

pub returns-in-Ok-put_sorted_whole-clause-empty : goal.returns-in-Ok-put_sorted_whole-clause-empty
returns-in-Ok-put_sorted_whole-clause-empty g c =
    let q = query_seen c.args.query in
    let G = graph c.args.store.now in
    let given : GivesAllRows q G c.in-Ok.listing = all_rows_given q G c.in-Ok.listing c.uncut-query.ensures.cut c.in-Ok.ensures.answers in
    let texts = c.deref.ensures.value ∙ c.in-Ok-sorted_texts.ensures q G given in
    let p = c.in-Ok-put_sorted_whole.ensures.text q G c.uncut-query.ensures.cut texts in
    p.whole.1

pub returns-in-Ok-put_sorted_whole-clause-cause : goal.returns-in-Ok-put_sorted_whole-clause-cause
returns-in-Ok-put_sorted_whole-clause-cause g c =
    let q = query_seen c.args.query in
    let G = graph c.args.store.now in
    let given : GivesAllRows q G c.in-Ok.listing = all_rows_given q G c.in-Ok.listing c.uncut-query.ensures.cut c.in-Ok.ensures.answers in
    let texts = c.deref.ensures.value ∙ c.in-Ok-sorted_texts.ensures q G given in
    let p = c.in-Ok-put_sorted_whole.ensures.text q G c.uncut-query.ensures.cut texts in
    record { later = p.cause.later; cut = λ e. let x : ⊥ = cc in absurd x }

pub returns-in-Ok-sorted_texts-clause-answers : goal.returns-in-Ok-sorted_texts-clause-answers
returns-in-Ok-sorted_texts-clause-answers g c = λ A body text sound e reads.
    let q = query_seen c.args.query in
    let G = graph c.args.store.now in
    let given : GivesAllRows q G c.in-Ok.listing = all_rows_given q G c.in-Ok.listing c.uncut-query.ensures.cut c.in-Ok.ensures.answers in
    let texts = c.deref.ensures.value ∙ c.in-Ok-sorted_texts.ensures q G given in
    let p = c.in-Err-put_sorted_whole.ensures.text q G c.uncut-query.ensures.cut texts in
    sorted_question A c.args.store.now body sound text q _ _ _ e reads p.cut

pub returns-in-Ok-sorted_texts-clause-cause : goal.returns-in-Ok-sorted_texts-clause-cause
returns-in-Ok-sorted_texts-clause-cause g c =
    let q = query_seen c.args.query in
    let G = graph c.args.store.now in
    let given : GivesAllRows q G c.in-Ok.listing = all_rows_given q G c.in-Ok.listing c.uncut-query.ensures.cut c.in-Ok.ensures.answers in
    let texts = c.deref.ensures.value ∙ c.in-Ok-sorted_texts.ensures q G given in
    let p = c.in-Err-put_sorted_whole.ensures.text q G c.uncut-query.ensures.cut texts in
    record { later = p.cause.later; cut = λ e. p.cause.failed }

pub returns-in-Ok-clause-answers : goal.returns-in-Ok-clause-answers
returns-in-Ok-clause-answers g c = λ A body text sound e reads. lack_answer A c.args.store.now body sound _ _ _ c.pass_on.ensures.text

pub returns-clause-answers : goal.returns-clause-answers
returns-clause-answers g c = λ A body text sound e reads. lack_answer A c.args.store.now body sound _ _ _ c.pass_on-in-Err.ensures.text
