use Rattle.std.proofs.Common.{refl}
use Rattle.ntriples_model.specs.Terminals.{tag_at}
use Rattle.ntriples.proofs.TerminalLemmas.{text_read}
use Rattle.ntriples.proofs.terminal.tag.Goals as goal

pub returns : goal.returns
returns c = text_read (tag_at c.args.bytes.now) c.args.bytes.now c.args.to.now c.read_tag.new.to c.len-place.result c.in_ok-size.size _ c.in_ok-size.ensures c.len-place.ensures.texts refl
