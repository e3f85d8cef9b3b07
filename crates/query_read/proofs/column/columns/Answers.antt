use Rattle.std.proofs.Common.{◌∙◌, List, ap, arith, take}
use Rattle.std.specs.Prelude.{map}
use Rattle.query_grammar.specs.Meaning.{column_of, variables_from}
use Rattle.query_read.specs.Seen.{name_seen}
use Rattle.query_read.specs.declared.name.Name.{Name}
use Rattle.query_read.proofs.NamesRead.{size_seen}
use Rattle.query_read.proofs.ColumnsRead.{star_columns, listed_columns, too_many_columns, listed, unlisted}
use Rattle.query_read.proofs.column.columns.Goals as goal

pub returns-then-place_of-head : goal.returns-then-place_of-head
returns-then-place_of-head c =
    star_columns c.args.all.now c.up_to-head.result.now (map name_seen c.args.names.now) _ (c.up_to-head.ensures ∙ ap (λ n. take n c.args.all.now) c.requires.head)
    (omega (arith, c.place_of.ensures.place)) c.requires.names (omega (arith, size_seen c.args.names.now)) c.in_ok-columns_of.ensures

pub returns-in_default : goal.returns-in_default
returns-in_default c =
    too_many_columns c.args.all.now c.up_to-head.result.now (c.up_to-head.ensures ∙ ap (λ n. take n c.args.all.now) c.requires.head) (omega (arith, c.place_of.ensures.place))
    (unlisted (λ v. map name_seen v.items) c.up_to-head.result.now c.in_ok-chosen.field-0 c.in_ok-chosen.ensures c.in_default.is)

pub returns : goal.returns
returns c =
    let chosen = listed (λ v. map name_seen v.items) c.up_to-head.result.now c.in_ok-chosen.field-0 c.in-Some.chosen c.in_ok-chosen.ensures c.in-Some.is in
    listed_columns c.args.all.now c.up_to-head.result.now (map name_seen c.args.names.now) (map name_seen c.in-Some.chosen.items) _ (c.up_to-head.ensures ∙ ap (λ n. take n c.args.all.now) c.requires.head)
    (omega (arith, c.place_of.ensures.place)) c.requires.names chosen.0 chosen.1
    (c.in_ok-columns_of-2.ensures ∙ ap (λ (ns : List Name). map (column_of (map name_seen c.args.names.now)) (variables_from (map name_seen ns))) c.deref.ensures.value)
