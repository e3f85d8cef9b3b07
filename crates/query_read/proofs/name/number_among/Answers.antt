use Rattle.std.proofs.Common.{◌≡◌, ◌∙◌, length, ap, sym, arith, drop}
use Rattle.std.specs.Prelude.{map}
use Rattle.std.proofs.lemmas.List.{drop_all}
use Rattle.query_grammar.specs.Meaning.{same_name}
use Rattle.query_read.specs.Seen.{name_seen}
use Rattle.query_read.proofs.PlacesFound.{place_begins, place_goes_on, place_found, place_missed}
use Rattle.query_read.proofs.Within.{drop_get}
use Rattle.query_read.proofs.name.number_among.Goals as goal

pub loop-i-init : goal.loop-i-init
loop-i-init c = place_begins (same_name (name_seen c.args.name)) (map name_seen c.args.names.now)

pub returns-then-is-clause-number : goal.returns-then-is-clause-number
returns-then-is-clause-number c =
    place_found (same_name (name_seen c.args.name)) (map name_seen c.args.names.now) (map name_seen (drop c.loop-i.i c.args.names.now)) _ _ c.loop-i.i c.loop-i.invariant
    (ap (map name_seen) (drop_get c.args.names.now c.loop-i.i _ (omega arith))) (sym c.is.ensures ∙ c.if-is.true)

pub loop-i-preserved : goal.loop-i-preserved
loop-i-preserved c =
    place_goes_on (same_name (name_seen c.args.name)) (map name_seen c.args.names.now) (map name_seen (drop c.loop-i.i c.args.names.now)) _ _ c.loop-i.i c.loop-i.invariant
    (ap (map name_seen) (drop_get c.args.names.now c.loop-i.i _ (omega arith))) (sym c.is.ensures ∙ c.if-is.false)

pub returns-clause-number : goal.returns-clause-number
returns-clause-number c =
    let all : c.loop-i.i ≡ length c.args.names.now = omega arith in
    sym all ∙ place_missed (same_name (name_seen c.args.name)) (map name_seen c.args.names.now) _ c.loop-i.i c.loop-i.invariant (ap (map name_seen) (drop_all c.loop-i.i c.args.names.now (omega arith)))
