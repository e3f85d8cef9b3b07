use Rattle.std.proofs.Common.{◌∙◌, arith, ap, sym, drop}
use Rattle.std.specs.Prelude.{map}
use Rattle.std.specs.Option.{option_map}
use Rattle.std.proofs.lemmas.List.{drop_all}
use Rattle.query_plan.specs.Seen.{pattern_seen}
use Rattle.query_read.specs.Seen.{name_seen, triple_seen}
use Rattle.query_read.proofs.Within.{drop_get}
use Rattle.query_read.proofs.PatternsRead.{patterns_go_on, patterns_fail, patterns_end, map_push}
use Rattle.query_read.proofs.pattern.patterns_of.Goals as goal

pub loop-i-preserved : goal.loop-i-preserved
loop-i-preserved c =
    patterns_go_on c.args.all.now (map name_seen c.args.names.now) (map triple_seen c.args.triples.now) (map triple_seen (drop c.loop-i.i c.args.triples.now)) _ _ _ _ _ c.loop-i.invariant
    (ap (map triple_seen) (drop_get c.args.triples.now c.loop-i.i _ (omega arith))) (ap (option_map pattern_seen) (sym c.in-Some.is) ∙ c.in_ok-pattern.ensures)
    (ap (map pattern_seen) c.in_ok-push.ensures.ok ∙ map_push c.loop-i.patterns c.in-Some.pattern)

pub returns-in_default : goal.returns-in_default
returns-in_default c =
    patterns_fail c.args.all.now (map name_seen c.args.names.now) (map triple_seen c.args.triples.now) (map triple_seen (drop c.loop-i.i c.args.triples.now)) _ _ _ c.loop-i.invariant
    (ap (map triple_seen) (drop_get c.args.triples.now c.loop-i.i _ (omega arith))) (ap (option_map pattern_seen) (sym c.in_default.is) ∙ c.in_ok-pattern.ensures)

pub returns : goal.returns
returns c =
    patterns_end c.args.all.now (map name_seen c.args.names.now) (map triple_seen c.args.triples.now) _ _ c.loop-i.invariant (ap (map triple_seen) (drop_all c.loop-i.i c.args.triples.now (omega arith)))
