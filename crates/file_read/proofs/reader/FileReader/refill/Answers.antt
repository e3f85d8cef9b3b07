use Rattle.std.proofs.Common.{◌∙◌}
use Rattle.file_read.proofs.ReaderLemmas.{front_of, refill_more}
use Rattle.file_read.proofs.reader.FileReader.refill.Goals as goal

pub returns-clause-takes : goal.returns-clause-takes
returns-clause-takes g c =
    refill_more (g.F.Files.files c.args.files.now) c.args.name.now _ _ c.self.view_is c.in_ok-count.count c.min.result c.read_at.new.buf _ (front_of _ _ _ (c.read_at.auto.buf ∙ c.as_mut_slice.ensures.len)) c.in_ok-count.ensures.bytes c.in_ok-count.ensures.bound.0 c.min.ensures c.requires.empty c.requires.under
