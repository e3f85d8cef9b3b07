-- The line on standard error for each status that is no success.
use Rattle.std.specs.Prelude.{ℕ, List, Option, None, Some, codes}
use Rattle.tentris_core.specs.declared.Status.{Status}
use Rattle.tentris_core.specs.declared.Status.TheVariants.{Done, SomeRefused, BadWords, ReadFault, WriteFault, Memory, TooLong}

abbrev pub line_of : Status → Option (List ℕ)
line_of Done = None
line_of SomeRefused = None
line_of BadWords = Some (codes "tentris: bad words")
line_of ReadFault = Some (codes "tentris: read fault")
line_of WriteFault = Some (codes "tentris: write fault")
line_of Memory = Some (codes "tentris: no memory")
line_of TooLong = Some (codes "tentris: script too long")
