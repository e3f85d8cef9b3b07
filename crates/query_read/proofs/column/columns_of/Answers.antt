use Rattle.std.proofs.Common.{ap, arith, drop}
use Rattle.std.specs.Prelude.{map}
use Rattle.std.proofs.lemmas.List.{drop_all}
use Rattle.query_read.specs.Seen.{name_seen}
use Rattle.query_read.proofs.ColumnsRead.{columns_go_on, columns_end}
use Rattle.query_read.proofs.Within.{drop_get}
use Rattle.query_read.proofs.column.columns_of.Goals as goal

pub loop-i-preserved : goal.loop-i-preserved
loop-i-preserved c =
    columns_go_on (map name_seen c.args.names.now) (map name_seen c.args.chosen.now) (map name_seen (drop c.loop-i.i c.args.chosen.now)) _ _ _ _ c.loop-i.invariant
    (ap (map name_seen) (drop_get c.args.chosen.now c.loop-i.i _ (omega arith))) c.in_ok-push_column.ensures

pub returns : goal.returns
returns c =
    columns_end (map name_seen c.args.names.now) (map name_seen c.args.chosen.now) _ _ c.loop-i.invariant (ap (map name_seen) (drop_all c.loop-i.i c.args.chosen.now (omega arith)))
