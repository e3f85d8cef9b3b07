use Rattle.std.proofs.Common.{◌∙◌, refl, arith}
use Rattle.query_text.specs.Seen.{sign_seen}
use Rattle.query_read.proofs.SignsFound.{number_none, number_some, number_large}
use Rattle.query_read.proofs.limit.number_behind.Goals as goal

pub returns-then-place-all : goal.returns-then-place-all
returns-then-place-all c = number_none (sign_seen c.args.sign) c.args.all.now (omega (arith, c.place_of-place.ensures.place))

pub returns-in-Some : goal.returns-in-Some
returns-in-Some c =
    number_some (sign_seen c.args.sign) c.args.all.now c.place_of-place.result c.in-Some.number c.as_bytes.result.now c.place_of-place.ensures.place (omega (arith, c.place_of-place.ensures.within)) (c.as_bytes.ensures.value ∙ c.text_at.ensures) c.in-Some.ensures (omega arith)

pub returns-in-None : goal.returns-in-None
returns-in-None c =
    (refl, number_large (sign_seen c.args.sign) c.args.all.now c.place_of-place.result c.as_bytes.result.now c.place_of-place.ensures.place (omega (arith, c.place_of-place.ensures.within)) (c.as_bytes.ensures.value ∙ c.text_at.ensures) c.in-None.ensures)
