use Rattle.std.proofs.Common.{◌-◌, ℕ, List, take, drop, refl, sym, ap, subst}
use Rattle.file_read.specs.ReaderState.{IsOpen}
use Rattle.file_read.proofs.ReaderLemmas.{cut_more, ahead_cut}
use Rattle.file_read.proofs.reader.FileReader.cut.Goals as goal

pub returns-clause-still : goal.returns-clause-still
returns-clause-still c = λ files name taken ls h.
    let e = c.take-count.ensures in
    cut_more _ _ _ (ap (λ (z : List ℕ). take (c.self.inside.end - c.self.inside.at) (drop c.self.inside.at z)) c.as_slice-bytes.ensures.value) c.take-count.result.0 c.take-count.result.1 (ahead_cut c.self.inside.at c.self.inside.end c.take-count.result.0 c.self.inside.buffer.items) refl refl refl e.takes.lines e.takes.whole files name taken ls
    (subst (λ s. IsOpen files name s taken ls) (sym c.self.view_is) h)
