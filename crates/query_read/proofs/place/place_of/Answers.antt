use Rattle.std.proofs.Common.{◌≡◌, ◌∙◌, length, ap, sym, arith}
use Rattle.std.proofs.lemmas.List.{drop_all}
use Rattle.query_grammar.specs.Meaning.{is_sign}
use Rattle.query_grammar.specs.Signs.{sign_of}
use Rattle.query_text.specs.Seen.{sign_seen}
use Rattle.query_read.proofs.PlacesFound.{place_begins, place_goes_on, place_found, place_missed}
use Rattle.query_read.proofs.Within.{drop_there}
use Rattle.query_read.proofs.place.place_of.Goals as goal

pub loop-i-init : goal.loop-i-init
loop-i-init c = place_begins (λ x. is_sign (sign_seen c.args.sign) (sign_of x)) c.args.all.now

pub returns-then-is-clause-place : goal.returns-then-is-clause-place
returns-then-is-clause-place c =
    place_found (λ x. is_sign (sign_seen c.args.sign) (sign_of x)) c.args.all.now _ _ c.index-all-i.result c.loop-i.i c.loop-i.invariant
    (drop_there c.args.all.now c.index-all-i.result c.loop-i.i (omega arith) c.index-all-i.is)
    (ap (is_sign (sign_seen c.args.sign)) (sym c.sign.ensures) ∙ sym c.is.ensures ∙ c.if-is.true)

pub loop-i-preserved : goal.loop-i-preserved
loop-i-preserved c =
    place_goes_on (λ x. is_sign (sign_seen c.args.sign) (sign_of x)) c.args.all.now _ _ c.index-all-i.result c.loop-i.i c.loop-i.invariant
    (drop_there c.args.all.now c.index-all-i.result c.loop-i.i (omega arith) c.index-all-i.is)
    (ap (is_sign (sign_seen c.args.sign)) (sym c.sign.ensures) ∙ sym c.is.ensures ∙ c.if-is.false)

pub returns-clause-place : goal.returns-clause-place
returns-clause-place c =
    let all : c.loop-i.i ≡ length c.args.all.now = omega arith in
    sym all ∙ place_missed (λ x. is_sign (sign_seen c.args.sign) (sign_of x)) c.args.all.now _ c.loop-i.i c.loop-i.invariant (drop_all c.loop-i.i c.args.all.now (omega arith))
