use Rattle.std.proofs.Common.{◌∙◌, sym, ap}
use Rattle.query_text.specs.Seen.{sign_seen}
use Rattle.query_read.proofs.TermsKnown.{iri_there}
use Rattle.query_read.proofs.term.has_iri.Goals as goal

pub returns-in-Iri : goal.returns-in-Iri
returns-in-Iri c = iri_there c.args.all.now c.args.i c.requires.sound (ap sign_seen (sym c.in-Iri.is) ∙ c.sign_at.ensures)
