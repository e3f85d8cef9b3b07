use Rattle.query_text.specs.Seen.{sign_seen}
use Rattle.query_read.proofs.SignsFound.{has_by}
use Rattle.query_read.proofs.place.has_sign.Goals as goal

pub returns : goal.returns
returns c = has_by (sign_seen c.args.sign) c.args.all.now c.place_of.result c.place_of.ensures.place c.place_of.ensures.within
