use Rattle.std.proofs.Common.{◌≡◌, ◌∙◌, ◌≤◌, ap, sym, arith, length}
use Rattle.std.specs.Prelude.{map}
use Rattle.std.proofs.lemmas.Result.{err_from_is_err_and}
use Rattle.query_grammar.specs.Meaning.{IsQuery, names_of, selected}
use Rattle.query_plan.specs.Seen.{pattern_seen}
use Rattle.query_read.proofs.NamesRead.{size_seen}
use Rattle.query_read.proofs.PatternsLabelled.{query_labelled}
use Rattle.query_read.proofs.ReaderLabels.{map_size, query_same}
use Rattle.query_read.proofs.ReaderSteps.{too_many_selected, too_large, whole_query, columns_none, columns_some}
use Rattle.query_read.proofs.reader.read_columns.Goals as goal

pub returns-in_err-columns-clause-query : goal.returns-in_err-columns-clause-query
returns-in_err-columns-clause-query c =
    let p = err_from_is_err_and c.from_residual.result c.from_residual.ensures.1 in rw (p.1, p.2) tt

pub returns-in_default-clause-query : goal.returns-in_default-clause-query
returns-in_default-clause-query c =
    let few : length (map pattern_seen c.args.patterns) ≤ 32 = omega (arith, map_size pattern_seen c.args.patterns, c.requires.few_patterns) in
    too_many_selected c.args.all.now (map pattern_seen c.args.patterns) few (columns_none c.args.all.now c.in_ok-columns.field-0 c.in_ok-columns.ensures c.in_default.is)

pub returns-in-Ok-clause-query : goal.returns-in-Ok-clause-query
returns-in-Ok-clause-query c =
    let few : length (map pattern_seen c.args.patterns) ≤ 32 = omega (arith, map_size pattern_seen c.args.patterns, c.requires.few_patterns) in
    let cols = columns_some c.args.all.now c.in_ok-columns.field-0 c.in-Some.columns c.in_ok-columns.ensures c.in-Some.is in
    let labels : length c.args.names.now ≡ length (names_of c.args.all.now) = sym (size_seen c.args.names.now) ∙ ap length c.requires.names in
    whole_query c.args.all.now (map pattern_seen c.args.patterns) few cols.1 c.in-Ok.ensures.2
    ∙ ap IsQuery (query_same c.args.all.now (record { columns = c.in-Some.columns; labels = length c.args.names.now; distinct = c.has_sign-distinct.result; patterns = c.args.patterns; limit = c.in-Ok.limit; offset = c.in-Ok.offset }) cols.0 labels c.has_sign-distinct.ensures c.in-Ok.ensures.0 c.in-Ok.ensures.1)

pub returns-in-Ok-clause-labelled : goal.returns-in-Ok-clause-labelled
returns-in-Ok-clause-labelled c =
    let cols = columns_some c.args.all.now c.in_ok-columns.field-0 c.in-Some.columns c.in_ok-columns.ensures c.in-Some.is in
    let labels : length c.args.names.now ≡ length (names_of c.args.all.now) = sym (size_seen c.args.names.now) ∙ ap length c.requires.names in
    let few : length (names_of c.args.all.now) ≤ 96 = omega (arith, size_seen c.args.names.now, ap length c.requires.names, c.requires.few_names) in
    query_labelled (names_of c.args.all.now) (selected c.args.all.now) (record { columns = c.in-Some.columns; labels = length c.args.names.now; distinct = c.has_sign-distinct.result; patterns = c.args.patterns; limit = c.in-Ok.limit; offset = c.in-Ok.offset }) labels few c.requires.labelled cols.0

pub returns-in-Err-clause-query : goal.returns-in-Err-clause-query
returns-in-Err-clause-query c =
    let few : length (map pattern_seen c.args.patterns) ≤ 32 = omega (arith, map_size pattern_seen c.args.patterns, c.requires.few_patterns) in
    let cols = columns_some c.args.all.now c.in_ok-columns.field-0 c.in-Some.columns c.in_ok-columns.ensures c.in-Some.is in
    rw c.in-Err.ensures.0 (too_large c.args.all.now (map pattern_seen c.args.patterns) few cols.1 c.in-Err.ensures.1)
